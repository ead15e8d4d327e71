-- No transaction of an accepted job's tape is ignored: the count of the ignored rises by those that are, and here it stays.
use mathlib.Core.Path.{◌≡◌, refl, ap, ◌∙◌}
use mathlib.Core.List.{List, [], ◌∷◌}
use Prim.Native.Nat.{ℕ, ◌+◌}
use native.Mathlib.Omega.{arith}
use lib.ListN.{length}
use Rattle.rules.specs.declared.Write.{Write}
use Rattle.rules.specs.declared.Write.TheVariants.{Program, Erase, WriteStatus}
use Rattle.rules.specs.declared.Kind.{Kind}
use Rattle.rules.specs.declared.Kind.TheVariants.{WriteEnable, WriteDisable, ReadStatusLow, ReadStatusHigh, Read, FastRead, Sleep, Wake, ReadMakerDevice, ReadJedec, Writes}
use Rattle.rules.specs.declared.Verdict.{Verdict}
use Rattle.rules.specs.declared.Verdict.TheVariants.{CarriedOut, Ignored}
use Rattle.rules.specs.declared.Meter.{Meter}
use Rattle.rules.specs.declared.Step.{Step}
use Rattle.rules.specs.Kinds.{of_write}
use Rattle.rules.specs.Part.{Part}
use Rattle.rules.specs.Verdict.{verdict_of}
use Rattle.rules.specs.Transaction.{turn_of}
use Rattle.rules.specs.Counts.{counted, meter_after}
use Rattle.rules.specs.Tape.{Rec, transaction, finish, power_cycle}
use Rattle.rules.specs.Play.{State, play_rec, play}
use Rattle.rules.specs.Records.{job_recs}
use Rattle.demand.specs.Ignored.{ignored_by, ignored_at, ignored_in}
use Rattle.laws.proofs.Tapeable.{Tapeable}
use Rattle.demand.proofs.Fit.{Fit}
use Rattle.demand.proofs.Accept.{JobOk}
use Rattle.demand.proofs.Demand3.{demand3}

-- "nothing else counts": no command that is carried out does
write_ignored : (m : Meter) (w : Write) → (counted m w).ignored ≡ m.ignored
write_ignored m Program = refl
write_ignored m (Erase u) = refl
write_ignored m WriteStatus = refl

kind-ignored : (m : Meter) (k : Kind) → (of_write k m (counted m)).ignored ≡ m.ignored
unfolding of_write
kind-ignored m WriteEnable = refl
kind-ignored m WriteDisable = refl
kind-ignored m ReadStatusLow = refl
kind-ignored m ReadStatusHigh = refl
kind-ignored m Read = refl
kind-ignored m FastRead = refl
kind-ignored m Sleep = refl
kind-ignored m Wake = refl
kind-ignored m ReadMakerDevice = refl
kind-ignored m ReadJedec = refl
kind-ignored m (Writes w) = write_ignored m w

-- "verdicts 10 to 16 add one to ignored"
verdict-ignored : (m : Meter) (v : Verdict) → (meter_after m v).ignored ≡ m.ignored + ignored_by v
verdict-ignored m (CarriedOut k) = kind-ignored m k ∙ omega arith
verdict-ignored m (Ignored w) = refl

rec_ignored : (p : Part) (e : Rec) (s : State) → (play_rec p e s).meter.ignored ≡ s.meter.ignored + ignored_at p e s
unfolding play_rec turn_of
rec_ignored p (transaction b x high) s = verdict-ignored s.meter (verdict_of p s.regs b x high)
rec_ignored p finish s = omega arith
rec_ignored p power_cycle s = omega arith

pub ignored-counted : (p : Part) (es : List Rec) (s : State) → (play p es s).meter.ignored ≡ s.meter.ignored + ignored_in p es s
unfolding play ignored_in
ignored-counted p [] s = omega arith
ignored-counted p (e ∷ es) s = ignored-counted p es (play_rec p e s) ∙ omega (arith, rec_ignored p e s)

pub none_ignored : (p : Part) → Tapeable p → (payload : List ℕ) (ws : List Step) (s : State) → Fit p s → JobOk p s.regs.setting (length payload) ws
    → ignored_in p (job_recs p payload ws) s ≡ 0
none_ignored p h payload ws s f k =
    let e = ap (λ (t : State). t.meter.ignored) (demand3 p h payload ws s f k) in
    omega (arith, ignored-counted p (job_recs p payload ws) s)
