-- Document 01, "Status bits and protection": its table of protected areas, as data.
use Rattle.std.specs.Prelude.{◌≡◌, true, ◌↔◌, ℕ, ◌-◌, ◌*◌, ◌/◌, ◌%◌, ◌≤◌, ◌<◌}
use Rattle.rules.specs.Part.{Part}
use Rattle.rules.specs.Protection.{is_protected}

infix 60 ◌KB
infix 20 ◌∣◌∣◌
-- what a field of the table says
pub data Area : Type 0 where
  none : Area
  ◌KB : ℕ → Area
  all : Area

-- | BP | SEC 0 | SEC 1 |
pub data ◌∣◌∣◌ : ℕ → Area → Area → Type 0 where
  line_0 : 0 ∣ none ∣ none
  line_1 : 1 ∣ 64 KB ∣ 4 KB
  line_2 : 2 ∣ 128 KB ∣ 8 KB
  line_3 : 3 ∣ 256 KB ∣ 16 KB
  line_4 : 4 ∣ 512 KB ∣ 32 KB
  line_5 : 5 ∣ 1024 KB ∣ 32 KB
  line_6 : 6 ∣ all ∣ all
  line_7 : 7 ∣ all ∣ all

-- how many bytes an area has: the chip has 2,097,152
abbrev pub bytes : Area → ℕ
bytes none = 0
bytes (n KB) = n * 1024
bytes all = 2097152

-- "S2 to S4 BP0 to BP2, S5 TB, S6 SEC. The setting is S6..S2 read as a number 0 to 31."
abbrev pub BP : ℕ → ℕ
BP s = s % 8

abbrev pub TB : ℕ → ℕ
TB s = s / 8 % 2

abbrev pub SEC : ℕ → ℕ
SEC s = s / 16 % 2

-- "The area lies at the top where TB is 0, at the bottom where TB is 1."
abbrev pub AtTop : Area → ℕ → Type 0
AtTop a x = (2097152 - bytes a ≤ x) × (x < 2097152)

abbrev pub AtBottom : Area → ℕ → Type 0
AtBottom a x = x < bytes a

-- a setting s protects the bytes of an area
pub record AsInTable (p : Part) (s : ℕ) (sec0 sec1 : Area) : Type 0 where
  pub sec0_top : SEC s ≡ 0 → TB s ≡ 0 → (x : ℕ) → is_protected p s x ≡ true ↔ AtTop sec0 x
  pub sec0_bottom : SEC s ≡ 0 → TB s ≡ 1 → (x : ℕ) → is_protected p s x ≡ true ↔ AtBottom sec0 x
  pub sec1_top : SEC s ≡ 1 → TB s ≡ 0 → (x : ℕ) → is_protected p s x ≡ true ↔ AtTop sec1 x
  pub sec1_bottom : SEC s ≡ 1 → TB s ≡ 1 → (x : ℕ) → is_protected p s x ≡ true ↔ AtBottom sec1 x
