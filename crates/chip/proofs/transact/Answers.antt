use Rattle.std.specs.Prelude.{Option, Result, Ok, Err}
use Rattle.rules.specs.Verdict.{verdict_of}
use Rattle.rules.specs.Transact.{is_high, transact_told, transact_seen, transact_of}
use Rattle.laws.proofs.Sound.{size_some}
use Rattle.laws.proofs.Parts.{part_sound}
use Rattle.std.proofs.lemmas.List.{length-take-le}
use Rattle.rules.specs.declared.Regs.{Regs}
use Rattle.laws.proofs.Answered.{transact_served_lem, transact_refused_lem, out-after}
use Rattle.laws.proofs.Accepted.{taken}
use Rattle.rules.specs.Transaction.{out_at, regs_after}
use Rattle.rules.specs.Status.{kept_of}
use Rattle.rules.specs.Parts.{part_of}
use Rattle.rules.specs.declared.Kind.{Kind}
use Rattle.rules.specs.declared.Served.{Served}
use Rattle.output.specs.Rest.{shown_at}
use Rattle.output.proofs.Rest.{shown_out}
use Rattle.rules.specs.declared.Refusal.{Refusal}
use Rattle.lists.specs.Places.{tabulate}
use lib.ListN.{length, take, drop}
use native.Mathlib.Omega.{arith}
use Prim.Native.Nat.{ℕ}
use mathlib.Core.List.{List, ◌++◌}
use mathlib.Core.Path.{◌≡◌, sym, ap, ◌∙◌}
use Rattle.chip.proofs.transact.Goals as goal

pub returns-in_err-transaction : goal.returns-in_err-transaction
returns-in_err-transaction c =
    let s = c.args in
    let same : c.from_residual.result ≡ Err c.in_err-transaction.field-0.0 = grind arith in
    ap (λ (t : Result Served Refusal). transact_seen (transact_told s.kept s.meter t) s.array.now s.out.now) same
    ∙ transact_refused_lem _ _ _ _ _ _ _ _ _ (sym c.in_err-transaction.ensures)

pub invariant_of-chip : goal.invariant_of-chip
invariant_of-chip c =
    let h = taken c.args.part (length c.args.array.now) c.args.kept (length c.args.bytes.now) c.args.leftover (length c.args.out.now) c.args.meter (sym c.in_ok-transaction.ensures) in
    record { sized = h.begun.long }

pub turn-verdict-requires : goal.turn-verdict-requires
turn-verdict-requires c =
    let h = taken c.args.part (length c.args.array.now) c.args.kept (length c.args.bytes.now) c.args.leftover (length c.args.out.now) c.args.meter (sym c.in_ok-transaction.ensures) in
    h.room

pub slice_bounds-show-end : goal.slice_bounds-show-end
slice_bounds-show-end c =
    let h = taken c.args.part (length c.args.array.now) c.args.kept (length c.args.bytes.now) c.args.leftover (length c.args.out.now) c.args.meter (sym c.in_ok-transaction.ensures) in
    omega (arith, h.fits)

pub slice_bounds-show-end-2 : goal.slice_bounds-show-end-2
slice_bounds-show-end-2 c =
    let h = taken c.args.part (length c.args.array.now) c.args.kept (length c.args.bytes.now) c.args.leftover (length c.args.out.now) c.args.meter (sym c.in_ok-transaction.ensures) in
    omega (arith, length-take-le (length c.args.bytes.now) c.args.out.now h.fits)

pub show-requires : goal.show-requires
show-requires c =
    let s = c.args in
    let h = taken c.args.part (length c.args.array.now) c.args.kept (length c.args.bytes.now) c.args.leftover (length c.args.out.now) c.args.meter (sym c.in_ok-transaction.ensures) in
    let p = part_of s.part in
    let t = c.turn-verdict in
    let l : length t.new.chip.array.now ≡ p.size = t.new.chip.sized ∙ ap (λ (k : ℕ). (part_of k).size) t.ensures.same.0 in
    (l, omega (arith, length-take-le (length s.bytes.now) s.out.now h.fits, h.short, size_some p (part_sound s.part)))

pub returns : goal.returns
returns c =
    let s = c.args in
    let h = taken c.args.part (length c.args.array.now) c.args.kept (length c.args.bytes.now) c.args.leftover (length c.args.out.now) c.args.meter (sym c.in_ok-transaction.ensures) in
    let p = part_of s.part in
    let n = length s.bytes.now in
    let b = s.bytes.now in
    let t = c.turn-verdict in
    let v = t.result in
    let r = c.from-regs in
    let o = s.out.now in
    let shown = c.show.ensures
    ∙ ap (λ (k : Option Kind). tabulate (length (take n o)) (shown_at p r.result t.new.chip.array.now b k)) c.kind.ensures
    ∙ shown_out p r.result t.new.chip.array.now b v (length (take n o))
    ∙ ap (λ (k : ℕ). tabulate k (out_at p r.result t.new.chip.array.now b v)) (length-take-le n o h.fits)
    ∙ ap (λ (w : List ℕ). tabulate n (out_at p r.result w b v)) t.ensures.array
    ∙ out-after p r.result s.array.now b n v
    ∙ ap (λ (w : Regs). tabulate n (out_at p w s.array.now b v)) r.ensures in
    let regs = c.from.ensures ∙ ap kept_of (t.ensures.regs ∙ ap (λ (w : Regs). regs_after p w b v) r.ensures) in
    let left : (x : List ℕ) → x ≡ t.new.chip.array.now
    → transact_seen (transact_told s.kept s.meter (Ok (record { verdict = v; regs = c.from.result; meter = t.new.chip.meter }))) x (c.show.new.out ++ drop n o)
    ≡ transact_of s.part s.kept s.meter s.array.now o b s.leftover s.wp = λ x q.
    (λ i. transact_seen (transact_told s.kept s.meter (Ok (record { verdict = v; regs = regs i; meter = t.ensures.meter i }))) ((q ∙ t.ensures.array) i)
    (ap (λ (w : List ℕ). w ++ drop n o) shown i))
    ∙ transact_served_lem s.part s.kept s.meter s.array.now o b s.leftover s.wp v
    (sym c.in_ok-transaction.ensures)
    (t.ensures.verdict ∙ ap (λ (w : Regs). verdict_of p w b s.leftover (is_high s.wp)) r.ensures) in
    left _ (grind arith)
