-- Which registers a chip can have; others are refusal 3. Document 01, "Status bits and protection":
-- "well formed when S10 to S15 are 0, BUSY implies WEL, and BUSY implies awake".
use Rattle.std.specs.Prelude.{ℕ, Bool, not, ◌&&◌, ◌||◌}
use Rattle.lists.specs.Choice.{◌=?◌, ◌<?◌, ◌≤?◌}
use Rattle.rules.specs.declared.Kept.{Kept}
use Rattle.rules.specs.Part.{Part}
use Rattle.rules.specs.Status.{bit0, bit_at, wel_bit}

-- one test implies another
abbrev pub implies : Bool → Bool → Bool
implies s t = not s || t

-- the status ends where the chip's does, which also keeps out one of more than 16 bits, and BUSY implies WEL
unfoldable pub word_formed : Part → ℕ → Bool
word_formed p w = (w <? p.status_end) && implies (bit0 w) (bit_at wel_bit w)

-- awake is 1 or 0, BUSY implies it, and a chip without a sleep command is awake
unfoldable pub awake_formed : Part → Kept → Bool
awake_formed p k =
    (k.awake ≤? 1)
    && implies (bit0 k.status) (k.awake =? 1)
    && (p.sleeps || (k.awake =? 1))

unfoldable pub well_formed : Part → Kept → Bool
well_formed p k = word_formed p k.status && awake_formed p k
