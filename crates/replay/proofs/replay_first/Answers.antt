use Rattle.std.specs.Prelude.{Result, Ok, Err}
use mathlib.Core.Path.{◌≡◌}
use native.Mathlib.Omega.{arith}
use Rattle.replay.proofs.Steps.{take_recs}
use Rattle.replay.proofs.Checked.{replayable, fewer, replay_served_lem, replay_refused_lem}
use Rattle.replay.specs.Playable.{Playable}
use Rattle.replay.specs.Held.{state_of}
use Rattle.laws.specs.Room.{Room}
use Rattle.rules.specs.Replay.{replay_told, replay_seen, replay_first_of}
use Rattle.rules.specs.Play.{state, play}
use Rattle.rules.specs.Tape.{Rec, records, recs_from}
use Rattle.rules.specs.Parts.{part_of}
use Rattle.rules.specs.declared.Played.{Played}
use Rattle.rules.specs.declared.Refusal.{Refusal}
use Rattle.rules.specs.declared.Regs.{Regs}
use lib.ListN.{length, take}
use Prim.Native.Nat.{ℕ, min}
use mathlib.Core.List.{List}
use mathlib.Core.Path.{sym, ap, ◌∙◌, subst}
use Rattle.replay.proofs.replay_first.Goals as goal

pub returns-in_err-refusal_of : goal.returns-in_err-refusal_of
returns-in_err-refusal_of c =
    let a = c.args in
    let same : c.from_residual.result ≡ Err c.in_err-refusal_of.field-0.0 = grind arith in
    ap (λ (t : Result Played Refusal). replay_seen (replay_told a.kept a.meter t) a.array.now) same
    ∙ replay_refused_lem _ _ _ _ _ _ _ (sym c.in_err-refusal_of.ensures)

pub invariant_of-chip : goal.invariant_of-chip
invariant_of-chip c =
    let a = c.args in
    let h = replayable a.part (length a.array.now) a.kept a.meter a.tape.now (sym c.in_ok-refusal_of.ensures) in
    record { sized = h.long }

pub play_first-requires : goal.play_first-requires
play_first-requires c =
    let a = c.args in
    let h = replayable a.part (length a.array.now) a.kept a.meter a.tape.now (sym c.in_ok-refusal_of.ensures) in
    let n = c.min-count.ensures ∙ ap (λ (w : ℕ). min a.k w) c.record_count.ensures in
    let f = fewer a.part (length a.array.now) a.meter a.tape.now a.k h in
    (subst (λ (w : ℕ). Playable a.tape.now w) (sym n) f.0, subst (λ (w : ℕ). Room a.meter w) (sym n) f.1)

pub returns : goal.returns
returns c =
    let a = c.args in
    let p = part_of a.part in
    let s = c.play_first.new.chip in
    let r = c.from.result in
    let n = c.min-count.ensures ∙ ap (λ (w : ℕ). min a.k w) c.record_count.ensures in
    let e = c.play_first.ensures.played
    ∙ ap (λ (w : ℕ). play p (recs_from a.tape.now 0 w) (state r a.array.now a.meter)) n
    ∙ ap (λ (es : List Rec). play p es (state r a.array.now a.meter)) (sym (take_recs a.tape.now 0 a.k (records a.tape.now)))
    ∙ ap (λ (r : Regs). play p (take a.k (recs_from a.tape.now 0 (records a.tape.now))) (state r a.array.now a.meter)) c.from.ensures in
    let left : (x : List ℕ) → x ≡ s.array.now → replay_seen (replay_told a.kept a.meter (Ok (record { regs = c.from-2.result; meter = s.meter }))) x ≡ replay_first_of a.part a.kept a.meter a.array.now a.tape.now a.k = λ x q.
    (λ i. replay_seen (replay_told a.kept a.meter (Ok (record { regs = c.from-2.ensures i; meter = s.meter }))) (q i))
    ∙ replay_served_lem a.part a.kept a.meter a.array.now a.tape.now a.k (state_of s) (sym c.in_ok-refusal_of.ensures) e in
    left _ (grind arith)
