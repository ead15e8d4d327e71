-- What an entry answers: by its refusal where there is one, and else by the verdict, the event or the records.
use Rattle.std.specs.Prelude.{Ok, Err}
use mathlib.Core.Path.{◌≡◌, refl, sym, ap, ◌∙◌}
use mathlib.Core.List.{List, ◌++◌}
use Prim.Native.Nat.{ℕ}
use lib.ListN.{length, drop}
use Rattle.lists.specs.Places.{tabulate}
use Rattle.rules.specs.declared.Kept.{Kept}
use Rattle.rules.specs.declared.Meter.{Meter}
use Rattle.rules.specs.declared.Regs.{Regs}
use Rattle.rules.specs.declared.Refusal.{Refusal}
use Rattle.rules.specs.declared.Kind.TheVariants.{WriteEnable, WriteDisable, ReadStatusLow, ReadStatusHigh, Read, FastRead, Sleep, Wake, ReadMakerDevice, ReadJedec, Writes}
use Rattle.rules.specs.declared.Verdict.{Verdict}
use Rattle.rules.specs.declared.Verdict.TheVariants.{CarriedOut, Ignored}
use Rattle.rules.specs.Kinds.{of_write}
use Rattle.rules.specs.Part.{Part}
use Rattle.rules.specs.Parts.{part_of}
use Rattle.rules.specs.Status.{regs_of, kept_of}
use Rattle.rules.specs.Verdict.{verdict_of}
use Rattle.rules.specs.Transaction.{out_at, regs_after, array_after, turn_of}
use Rattle.rules.specs.Counts.{meter_after}
use Rattle.rules.specs.Refusals.{Checked, passes, refused, answered, transact_refusal, event_refusal}
use Rattle.rules.specs.Transact.{TransactSeen, transact_told, transact_seen, transact_served, transact_refused, is_high, transact_of}
use Rattle.rules.specs.EventEntries.{event_told, event_of}

-- ---- transact

module _ (part : ℕ) (kept : Kept) (m : Meter) (l o b : List ℕ) (x wp : ℕ) where
  abbrev refusal_is : Checked
  refusal_is = transact_refusal part (length l) kept (length b) x (length o) m

  -- what is seen of a transaction with verdict v
  abbrev pub seen_by : Verdict → TransactSeen
  seen_by v =
      transact_seen
      (transact_told kept m (Ok (record { verdict = v; regs = kept_of (regs_after (part_of part) (regs_of kept) b v); meter = meter_after m v })))
      (array_after (part_of part) l b v)
      (tabulate (length b) (out_at (part_of part) (regs_of kept) l b v) ++ drop (length b) o)

  pub transact_served_lem : (v : Verdict) → refusal_is ≡ passes → v ≡ verdict_of (part_of part) (regs_of kept) b x (is_high wp)
      → seen_by v ≡ transact_of part kept m l o b x wp
  unfolding transact_of transact_served turn_of answered
  transact_served_lem v e f = ap seen_by f ∙ sym (rw e)

  pub transact_refused_lem : (z : Refusal) → refusal_is ≡ refused z → transact_seen (transact_told kept m (Err z)) l o ≡ transact_of part kept m l o b x wp
  unfolding transact_of transact_refused answered
  transact_refused_lem z e = rw e

-- a command that drives the array leaves it: so its output may be made after it
pub out-after : (p : Part) (r : Regs) (l b : List ℕ) (n : ℕ) (v : Verdict) → tabulate n (out_at p r (array_after p l b v) b v) ≡ tabulate n (out_at p r l b v)
unfolding of_write
out-after p r l b n (Ignored w) = refl
out-after p r l b n (CarriedOut WriteEnable) = refl
out-after p r l b n (CarriedOut WriteDisable) = refl
out-after p r l b n (CarriedOut ReadStatusLow) = refl
out-after p r l b n (CarriedOut ReadStatusHigh) = refl
out-after p r l b n (CarriedOut Read) = refl
out-after p r l b n (CarriedOut FastRead) = refl
out-after p r l b n (CarriedOut Sleep) = refl
out-after p r l b n (CarriedOut Wake) = refl
out-after p r l b n (CarriedOut ReadMakerDevice) = refl
out-after p r l b n (CarriedOut ReadJedec) = refl
out-after p r l b n (CarriedOut (Writes w)) = refl

-- ---- finish and power cycle

-- the registers taken apart as r, moved by f to s, and put together as back
pub event_served : (part : ℕ) (kept back : Kept) (f : Regs → Regs) (r s : Regs) → event_refusal part kept ≡ passes
    → r ≡ regs_of kept → s ≡ f r → back ≡ kept_of s → event_told kept (Ok back) ≡ event_of part kept f
unfolding event_of answered
event_served part kept back f r s e p q w = ap (λ (k : Kept). event_told kept (Ok k)) (w ∙ ap kept_of (q ∙ ap f p)) ∙ sym (rw e)

pub event_refused : (part : ℕ) (kept : Kept) (f : Regs → Regs) (z : Refusal) → event_refusal part kept ≡ refused z
    → event_told kept (Err z) ≡ event_of part kept f
unfolding event_of answered
event_refused part kept f z e = rw e
