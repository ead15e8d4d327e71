-- A choice by a test, and the tests on numbers that choices go by.
use Rattle.std.specs.Prelude.{Bool, true, false, ℕ, eqb, ltb, leb}

infixr 5 if◌then◌otherwise◌
infix 50 ◌=?◌ ◌<?◌ ◌≤?◌
-- shut, so that laws about a choice apply to it as it stands; `unfolding if◌then◌otherwise◌` computes it
unfoldable pub if◌then◌otherwise◌ {ℓ} : {A : Type ℓ} → Bool → A → A → A
if true then a otherwise b = a
if false then a otherwise b = b

abbrev pub ◌=?◌ : ℕ → ℕ → Bool
a =? b = eqb a b

abbrev pub ◌<?◌ : ℕ → ℕ → Bool
a <? b = ltb a b

abbrev pub ◌≤?◌ : ℕ → ℕ → Bool
a ≤? b = leb a b
