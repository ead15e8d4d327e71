-- The three records of a write, played: 06, the command, finish.
use mathlib.Core.Path.{◌≡◌, refl, sym, ap, ◌∙◌}
use mathlib.Core.Bool.{Bool, true, false, not, ◌&&◌}
use mathlib.Core.List.{List, [], ◌∷◌, ◌++◌}
use Prim.Native.Nat.{ℕ, ◌<◌}
use native.Mathlib.Omega.{arith}
use lib.ListN.{length, get_or}
use borrow.Author.Tests.{ne_eqb}
use Rattle.lists.specs.Choice.{if◌then◌otherwise◌}
use Rattle.rules.specs.declared.Write.{Write}
use Rattle.rules.specs.declared.Write.TheVariants.{Program, Erase, WriteStatus}
use Rattle.rules.specs.declared.Kind.{Kind}
use Rattle.rules.specs.declared.Kind.TheVariants.{WriteEnable, Writes}
use Rattle.rules.specs.declared.Regs.{Regs}
use Rattle.rules.specs.declared.Verdict.TheVariants.{CarriedOut}
use Rattle.rules.specs.Kinds.{code_of, of_write, of_known}
use Rattle.rules.specs.Part.{Part}
use Rattle.rules.specs.Status.{with_wel, with_busy}
use Rattle.rules.specs.Writes.{reach_start, reach_length, locked, locked_out, regs_written, array_written}
use Rattle.rules.specs.Verdict.{address_of, unheard_asleep, unheard_busy, verdict_of}
use Rattle.laws.specs.Judged.{write_verdict, kind_verdict, judge_of}
use Rattle.laws.proofs.Judged.{verdict_judged}
use Rattle.rules.specs.Transaction.{turn_of}
use Rattle.rules.specs.Counts.{counted}
use Rattle.rules.specs.Events.{finished}
use Rattle.rules.specs.Tape.{Rec}
use Rattle.rules.specs.Play.{State, state, play_rec, play}
use Rattle.rules.specs.Records.{three_recs}
use Rattle.demand.proofs.Bare.{Bare}
use Rattle.laws.proofs.Tapeable.{Offers, Tapeable}
use Rattle.demand.proofs.Fit.{Calm, calm_wel}

-- the bytes b say a kind to the chip, in the right number and with no leftover bits
pub record Says (p : Part) (k : Kind) (b : List ℕ) : Type 0 where
  pub not_empty : 0 < length b
  pub code : get_or b 0 0 ≡ code_of k
  pub offers : Offers p k (length b)

-- "a tape holds /WP high"
unlocked-out : (r : Regs) → r.srp1 ≡ false → (w : Write) → locked_out w r true ≡ false
unfolding locked
unlocked-out r e Program = refl
unlocked-out r e (Erase u) = refl
unlocked-out r e WriteStatus = rw e (high r.srp0)
  where
    high : (t : Bool) → (t && false && not r.qe) ≡ false
    high true = refl
    high false = refl

-- the registers after a write that was finished
abbrev pub settled : Part → Regs → List ℕ → Write → Regs
settled p r b w = with_wel (with_busy (regs_written p (with_wel r true) b w) false) false

-- where the write sets no other register, WEL falls and that is all
pub settled_plain : (r : Regs) → Calm r → with_wel (with_busy r false) false ≡ with_wel r false
settled_plain r c = ap (λ (b : Bool). with_wel (with_busy r b) false) (sym c.idle)

finish_settles : (p : Part) (r : Regs) (b : List ℕ) (w : Write) → finished (regs_written p (with_wel r true) b w) ≡ settled p r b w
unfolding finished if◌then◌otherwise◌
finish_settles p r b Program = refl
finish_settles p r b (Erase u) = refl
finish_settles p r b WriteStatus = refl

module _ (p : Part) (law : Tapeable p) where
  -- a chip that is awake and idle hears what is said
  heard : (r : Regs) → Calm r → (k : Kind) (b : List ℕ) → Says p k b → verdict_of p r b 0 true ≡ of_write k (CarriedOut k) (write_verdict p r true (address_of p b) k)
  unfolding judge_of unheard_asleep unheard_busy of_known kind_verdict if◌then◌otherwise◌
  heard r c k b s =
      let not_empty = s.not_empty in
      verdict_judged p r b 0 true
      ∙ rw (ne_eqb (length b) 0 (λ e. omega arith), s.code, s.offers.known, c.awake, c.idle, s.offers.shape)

  enable_done : (r : Regs) → Calm r → verdict_of p r (code_of WriteEnable ∷ []) 0 true ≡ CarriedOut WriteEnable
  unfolding of_write
  enable_done r c = heard r c WriteEnable _ (record { not_empty = omega arith; code = refl; offers = law.enables })

  -- with WEL 1, unlocked and nothing protected: "else 0, carried out"
  write_done : (r : Regs) → Calm r → (w : Write) (b : List ℕ) → Says p (Writes w) b → Bare p r.setting (reach_start w (address_of p b)) (reach_length p w)
      → verdict_of p (with_wel r true) b 0 true ≡ CarriedOut (Writes w)
  unfolding of_write write_verdict if◌then◌otherwise◌
  write_done r c w b s bare = heard (with_wel r true) (calm_wel r c true) (Writes w) b s ∙ rw (unlocked-out (with_wel r true) c.unlocked w, bare)

  -- the write does its own to the registers, the array and the meter, and the records es come after it
  pub three_play : (s : State) → Calm s.regs → (w : Write) (b : List ℕ) → Says p (Writes w) b
      → Bare p s.regs.setting (reach_start w (address_of p b)) (reach_length p w) → (es : List Rec)
      → play p (three_recs b ++ es) s ≡ play p es (state (settled p s.regs b w) (array_written p s.array b (address_of p b) w) (counted s.meter w))
  unfolding play play_rec turn_of of_write
  three_play s c w b y bare es = rw (enable_done s.regs c, write_done s.regs c w b y bare, finish_settles p s.regs b w)
