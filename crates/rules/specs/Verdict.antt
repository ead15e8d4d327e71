-- The verdict on a transaction. Document 01, "Verdicts, first that applies".
use Rattle.std.specs.Prelude.{ℕ, ◌+◌, ◌*◌, ◌%◌, Bool, true, false, not, ◌&&◌, List, length, get_or, Option, Some, None}
use Rattle.rules.specs.declared.Kind.{Kind}
use Rattle.lists.specs.Choice.{if◌then◌otherwise◌, ◌=?◌}
use Rattle.rules.specs.declared.Regs.{Regs}
use Rattle.rules.specs.declared.Reason.{Reason}
use Rattle.rules.specs.declared.Reason.TheVariants.{Busy, Asleep, NoCommand, Misshapen, NotEnabled, Locked, Protected}
use Rattle.rules.specs.declared.Verdict.{Verdict}
use Rattle.rules.specs.declared.Verdict.TheVariants.{CarriedOut, Ignored}
use Rattle.rules.specs.Kinds.{code_of, of_known, of_written}
use Rattle.rules.specs.Part.{Part, command_of, shaped}
use Rattle.rules.specs.Protection.{some_protected}
use Rattle.rules.specs.Writes.{reach_start, reach_length, locked_out}

-- the number of an ignored command
abbrev pub reason_number : Reason → ℕ
reason_number Busy = 10
reason_number Asleep = 11
reason_number NoCommand = 12
reason_number Misshapen = 13
reason_number NotEnabled = 14
reason_number Locked = 15
reason_number Protected = 16

-- "addresses are three bytes, high first, taken modulo" the size
unfoldable pub address_of : Part → List ℕ → ℕ
address_of p b = (get_or b 1 0 * 65536 + get_or b 2 0 * 256 + get_or b 3 0) % p.size

-- ---- the tests, one a number: of the code op, of what it says to the chip c, or of the bytes b

-- 12: "no whole byte"
abbrev pub no_whole_byte : List ℕ → Bool
no_whole_byte b = length b =? 0

-- 11: "asleep and not AB"
unfoldable pub unheard_asleep : Part → Regs → ℕ → Bool
unheard_asleep p r op = not r.awake && not (p.heard_asleep op)

-- 10: "busy and neither 05 nor 35"
unfoldable pub unheard_busy : Part → Regs → ℕ → Bool
unheard_busy p r op = r.busy && not (p.heard_busy op)

-- 12: "unknown command"
abbrev pub is_unknown : Option Kind → Bool
is_unknown None = true
is_unknown (Some k) = false

-- 13: "wrong byte count or leftover bits": n bytes, x leftover bits
abbrev pub misshapen : Part → ℕ → ℕ → ℕ → Bool
misshapen p op n x = not (shaped p op n x)

-- 14: "a write, erase or status write with WEL 0"
abbrev pub not_enabled : Regs → Option Kind → Bool
not_enabled r c = of_written c false (λ w. not r.wel)

-- 15: "status locked"
abbrev pub status_locked : Regs → Bool → Option Kind → Bool
status_locked r high c = of_written c false (λ w. locked_out w r high)

-- 16: "some byte of the page or unit is protected", at address a
abbrev pub touches_protected : Part → Regs → ℕ → Option Kind → Bool
touches_protected p r a c = of_written c false (λ w. some_protected p r.setting (reach_start w a) (reach_length p w))

-- "else 0, carried out" with its kind; an unknown command has none, and does not come here
abbrev pub carried_out : Option Kind → Verdict
carried_out c = of_known c (Ignored NoCommand) CarriedOut

-- ---- "first that applies"

-- the verdict on the bytes b with x leftover bits and /WP high or low
unfoldable pub verdict_of : (p : Part) (r : Regs) (b : List ℕ) (x : ℕ) (high : Bool) → Verdict
verdict_of p r b x high =
    let op = get_or b 0 0 in
    let c = command_of p op in
    if no_whole_byte b then Ignored NoCommand otherwise
    if unheard_asleep p r op then Ignored Asleep otherwise
    if unheard_busy p r op then Ignored Busy otherwise
    if is_unknown c then Ignored NoCommand otherwise
    if misshapen p op (length b) x then Ignored Misshapen otherwise
    if not_enabled r c then Ignored NotEnabled otherwise
    if status_locked r high c then Ignored Locked otherwise
    if touches_protected p r (address_of p b) c then Ignored Protected otherwise
    carried_out c

-- ---- what a verdict tells

-- the kind that is carried out
abbrev pub kind_of : Verdict → Option Kind
kind_of (CarriedOut k) = Some k
kind_of (Ignored w) = None

-- the paper's number and values: 0 and the kind's code, or the number of an ignored command and no code

pub record VerdictTold : Type 0 where
  pub number : ℕ
  pub code : ℕ

abbrev pub verdict_told : Verdict → VerdictTold
verdict_told (CarriedOut k) = record { number = 0; code = code_of k }
verdict_told (Ignored w) = record { number = reason_number w; code = 0 }
