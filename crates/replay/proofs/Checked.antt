-- What the checks of a replay leave, and what it then answers.
use Rattle.std.specs.Prelude.{Option, Some, None, Ok, Err}
use mathlib.Core.Path.{◌≡◌, refl, sym, ap, ◌∙◌}
use mathlib.Core.Bool.{not}
use mathlib.Core.List.{List}
use Prim.Native.Nat.{ℕ, min}
use native.Mathlib.Omega.{arith}
use lib.ListN.{length, take}
use borrow.Author.Tests.{not-false}
use Rattle.lists.proofs.Search.{first_none}
use Rattle.rules.specs.declared.Kept.{Kept}
use Rattle.rules.specs.declared.Meter.{Meter}
use Rattle.rules.specs.declared.Refusal.{Refusal}
use Rattle.rules.specs.declared.Refusal.TheVariants.{MeterFull, CutTape, BadRecord}
use Rattle.rules.specs.Refusals.{passes, refused, answered}
use Rattle.rules.specs.Parts.{part_of}
use Rattle.rules.specs.Status.{regs_of, kept_of}
use Rattle.rules.specs.Counts.{room}
use Rattle.rules.specs.Tape.{whole, good_record, first_bad, records, recs_of}
use Rattle.rules.specs.Play.{State, state, play}
use Rattle.rules.specs.Replay.{bad_record, records_refusal, replay_refusal, replay_told, replay_seen, replay_served, replay_refused, replay_first_of}
use Rattle.laws.specs.Room.{Room}
use Rattle.laws.proofs.Accepted.{refused_not, passed, neither, opened, room-is}
use Rattle.replay.specs.Playable.{Playable}

none_bad : (f : Option ℕ) → bad_record f ≡ passes → f ≡ None
none_bad (Some i) e = absurd (refused_not (BadRecord i) e)
none_bad None e = refl

pub record Replayable (part al : ℕ) (m : Meter) (t : List ℕ) : Type 0 where
  pub long : al ≡ (part_of part).size
  pub playable : Playable t (records t)
  pub room : Room m (records t)

pub replayable : (part al : ℕ) (kept : Kept) (m : Meter) (t : List ℕ) → replay_refusal part al kept m t ≡ passes → Replayable part al m t
unfolding replay_refusal records_refusal first_bad
replayable part al kept m t e =
    let o = opened part al kept _ e in
    let e4 = passed (not (whole t)) CutTape _ o.1 in
    let e5 = neither (bad_record (first_bad t)) _ e4.1 in
    let e6 = passed (not (room m (records t))) MeterFull _ e5.1 in
    let f = first_none (λ p. not (good_record t p)) 0 (records t) (none_bad (first_bad t) e5.0) in
    record {
      long = o.0.long;
      playable = record { there = omega arith; good = λ p h. not-false _ (f p (omega arith) (omega arith)) };
      room = room-is m (records t) (not-false _ e6.0);
    }

-- fewer records are playable, and have room
pub fewer : (part al : ℕ) (m : Meter) (t : List ℕ) (k : ℕ) → Replayable part al m t → Playable t (min k (records t)) × Room m (min k (records t))
fewer part al m t k h =
    let r = h.room in
    (record { there = omega arith; good = λ p q. h.playable.good p (omega arith) }, omega arith)

module _ (part : ℕ) (kept : Kept) (m : Meter) (l t : List ℕ) (k : ℕ) where
  pub replay_served_lem : (s : State) → replay_refusal part (length l) kept m t ≡ passes → s ≡ play (part_of part) (take k (recs_of t)) (state (regs_of kept) l m)
      → replay_seen (replay_told kept m (Ok (record { regs = kept_of s.regs; meter = s.meter }))) s.array ≡ replay_first_of part kept m l t k
  unfolding replay_first_of replay_served answered
  replay_served_lem s e f =
      ap (λ (w : State). replay_seen (replay_told kept m (Ok (record { regs = kept_of w.regs; meter = w.meter }))) w.array) f ∙ sym (rw e)

  pub replay_refused_lem : (z : Refusal) → replay_refusal part (length l) kept m t ≡ refused z → replay_seen (replay_told kept m (Err z)) l ≡ replay_first_of part kept m l t k
  unfolding replay_first_of replay_refused answered
  replay_refused_lem z e = rw e
