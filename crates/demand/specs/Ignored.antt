-- How many transactions a chip ignores while records are played.
use Rattle.std.specs.Prelude.{ℕ, ◌+◌, List, [], ◌∷◌}
use Rattle.rules.specs.declared.Verdict.{Verdict}
use Rattle.rules.specs.declared.Verdict.TheVariants.{CarriedOut, Ignored}
use Rattle.rules.specs.Part.{Part}
use Rattle.rules.specs.Verdict.{verdict_of}
use Rattle.rules.specs.Tape.{Rec, transaction, finish, power_cycle}
use Rattle.rules.specs.Play.{State, play_rec}

abbrev pub ignored_by : Verdict → ℕ
ignored_by (CarriedOut k) = 0
ignored_by (Ignored w) = 1

-- finish and power cycle are no transactions
abbrev pub ignored_at : Part → Rec → State → ℕ
ignored_at p (transaction b x high) s = ignored_by (verdict_of p s.regs b x high)
ignored_at p finish s = 0
ignored_at p power_cycle s = 0

unfoldable pub ignored_in : Part → List Rec → State → ℕ
ignored_in p [] s = 0
ignored_in p (e ∷ es) s = ignored_at p e s + ignored_in p es (play_rec p e s)
