-- What a read and a refused count answer, as numbers, is what the rules tell of it.
use Rattle.std.specs.Prelude.{Some, None, Ok, Err}
use mathlib.Core.Path.{◌≡◌, refl, sym, ap, ◌∙◌}
use mathlib.Core.Bool.{Bool, true, false, not}
use mathlib.Core.List.{List}
use Prim.Native.Nat.{ℕ, ◌≤◌}
use native.Mathlib.Omega.{arith}
use lib.Dec.{eqb, leb}
use Rattle.lists.specs.Choice.{if◌then◌otherwise◌}
use Rattle.rules.specs.declared.Record.TheVariants.{Transaction, Finish, PowerCycle}
use Rattle.rules.specs.declared.Fault.TheVariants.{CutTape, BadRecord}
use Rattle.rules.specs.declared.Sent.{Sent}
use Rattle.rules.specs.Tape.{sent_limit, whole, records, kind_at, good_record}
use Rattle.rules.specs.Reading.{AtPlace, sent_at, said_at, read_at, read_told, read_of}
use Rattle.rules.specs.declared.Meter.{Meter}
use Rattle.rules.specs.declared.Uncounted.{Uncounted}
use Rattle.rules.specs.Refusals.{number_of}
use Rattle.rules.specs.Parts.{is_part}
use Rattle.rules.specs.Counts.{room}
use Rattle.rules.specs.CountEntry.{Metered, metered, count_told, count_of}
use Rattle.lists.proofs.Choice.{by_choice}
use Rattle.tape.proofs.Good.{good_short}
use Rattle.tape.proofs.Said.{read_is}

-- the refusals of a count, 1 and 7, have no index: their number and the meter tell them
counted_plain : (part : ℕ) (m : Meter) (number op : ℕ) → (count_of part m number op).index ≡ 0
unfolding count_of
counted_plain part m number op =
    by_choice (λ (t : Metered). t.index ≡ 0) (not (is_part part)) _ _ refl (by_choice (λ (t : Metered). t.index ≡ 0) (not (room m 1)) _ _ refl refl)

pub count_refused : (part : ℕ) (m : Meter) (number op : ℕ) (u : Uncounted) → count_told (Err u) ≡ count_of part m number op
    → metered (number_of u.refusal) u.meter ≡ count_of part m number op
count_refused part m number op u e =
    let plain = ap (λ (t : Metered). t.index) e ∙ counted_plain part m number op in
    (λ i. record { number = number_of u.refusal; index = sym plain i; meter = u.meter }) ∙ e

-- a transaction that is read is no longer than a record holds
read_short : (t : List ℕ) (p : ℕ) (s : Sent) → ◌≡◌ {A = AtPlace} (Ok (Some (Transaction s))) (read_at t p) → s.length ≤ sent_limit
unfolding read_at said_at if◌then◌otherwise◌
read_short t p s e = go (whole t) (leb (records t) p) (good_record t p) (eqb (kind_at t p) 0) (eqb (kind_at t p) 1) refl e
  where
    no : {A : Type 0} → ◌≡◌ {A = ℕ} 0 1 → A
    no z = absurd (omega arith)

    go : (a b g k₀ k₁ : Bool) → good_record t p ≡ g
        → ◌≡◌ {A = AtPlace} (Ok (Some (Transaction s)))
        (if not a then Err CutTape otherwise if b then Ok None otherwise if not g then Err BadRecord otherwise
        Ok (Some (if k₀ then Transaction (sent_at t p) otherwise if k₁ then Finish otherwise PowerCycle)))
        → s.length ≤ sent_limit
    go false b g k₀ k₁ h q = no cc
    go true true g k₀ k₁ h q = no cc
    go true false false k₀ k₁ h q = no cc
    go true false true true k₁ h q =
        let w : s ≡ sent_at t p = cc in
        omega (arith, ap (λ (s : Sent). s.length) w, good_short t p h)
    go true false true false true h q = no cc
    go true false true false false h q = no cc

pub sent_short : (t : List ℕ) (p : ℕ) (s : Sent) → read_told p (Ok (Some (Transaction s))) ≡ read_of t p → s.length ≤ sent_limit
sent_short t p s e = read_short t p s (read_is t p (Ok (Some (Transaction s))) e)
