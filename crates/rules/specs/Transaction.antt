-- What a transaction does: the bytes out, the registers and the array. It knows no meter.
-- Document 01, "What a transaction does".
use Rattle.std.specs.Prelude.{ℕ, ◌+◌, ◌-◌, ◌%◌, Bool, true, false, List, length, get_or}
use Rattle.lists.specs.Choice.{if◌then◌otherwise◌, ◌=?◌, ◌≤?◌}
use Rattle.lists.specs.Places.{tabulate}
use Rattle.rules.specs.declared.Regs.{Regs}
use Rattle.rules.specs.declared.Kind.{Kind}
use Rattle.rules.specs.declared.Kind.TheVariants.{WriteEnable, WriteDisable, ReadStatusLow, ReadStatusHigh, Read, FastRead, Sleep, Wake, ReadMakerDevice, ReadJedec, Writes}
use Rattle.rules.specs.declared.Verdict.{Verdict}
use Rattle.rules.specs.declared.Verdict.TheVariants.{CarriedOut, Ignored}
use Rattle.rules.specs.Kinds.{of_write}
use Rattle.rules.specs.Part.{Part}
use Rattle.rules.specs.Status.{low_byte, high_byte, with_wel, with_awake}
use Rattle.rules.specs.Writes.{regs_written, array_written}
use Rattle.rules.specs.Verdict.{address_of, verdict_of}

-- ---- the bytes out

-- from place k on the bytes f 0, f 1, ..; FF where the chip drives nothing
unfoldable pub from_place : ℕ → (ℕ → ℕ) → ℕ → ℕ
from_place k f i = if k ≤? i then f (i - k) otherwise 0xFF

-- the array from address a on, wrapping at the end
unfoldable pub array_from : Part → List ℕ → ℕ → ℕ → ℕ
array_from p l a j = get_or l ((a + j) % p.size) 0

-- maker and device byte in turn, device first if the lowest address bit is 1
unfoldable pub maker_device : Part → List ℕ → ℕ → ℕ
maker_device p b j = if (get_or b 3 0 + j) % 2 =? 0 then p.maker otherwise p.device

-- what a command that is carried out drives at place i
abbrev pub driven_at : Part → Regs → List ℕ → List ℕ → Kind → ℕ → ℕ
driven_at p r l b WriteEnable i = 0xFF
driven_at p r l b WriteDisable i = 0xFF
driven_at p r l b ReadStatusLow i = from_place 1 (λ j. low_byte r) i
driven_at p r l b ReadStatusHigh i = from_place 1 (λ j. high_byte r) i
driven_at p r l b Read i = from_place 4 (array_from p l (address_of p b)) i
driven_at p r l b FastRead i = from_place 5 (array_from p l (address_of p b)) i
driven_at p r l b Sleep i = 0xFF
driven_at p r l b Wake i = from_place 4 (λ j. p.device) i
driven_at p r l b ReadMakerDevice i = from_place 4 (maker_device p b) i
driven_at p r l b ReadJedec i = from_place 1 p.jedec i
driven_at p r l b (Writes w) i = 0xFF

-- an ignored command drives only FF
abbrev pub out_at : Part → Regs → List ℕ → List ℕ → Verdict → ℕ → ℕ
out_at p r l b (CarriedOut k) i = driven_at p r l b k i
out_at p r l b (Ignored w) i = 0xFF

-- ---- the registers and the array

abbrev pub regs_done : Part → Regs → List ℕ → Kind → Regs
regs_done p r b WriteEnable = with_wel r true
regs_done p r b WriteDisable = with_wel r false
regs_done p r b ReadStatusLow = r
regs_done p r b ReadStatusHigh = r
regs_done p r b Read = r
regs_done p r b FastRead = r
regs_done p r b Sleep = with_awake r false
regs_done p r b Wake = with_awake r true
regs_done p r b ReadMakerDevice = r
regs_done p r b ReadJedec = r
regs_done p r b (Writes w) = regs_written p r b w

-- an ignored command leaves the registers, WEL too
abbrev pub regs_after : Part → Regs → List ℕ → Verdict → Regs
regs_after p r b (CarriedOut k) = regs_done p r b k
regs_after p r b (Ignored w) = r

abbrev pub array_after : Part → List ℕ → List ℕ → Verdict → List ℕ
array_after p l b (CarriedOut k) = of_write k l (array_written p l b (address_of p b))
array_after p l b (Ignored w) = l

-- ---- the whole of it

pub record Turn : Type 0 where
  pub verdict : Verdict
  pub regs : Regs
  pub array : List ℕ
  pub out : List ℕ

abbrev pub turn_by : (p : Part) (r : Regs) (l b : List ℕ) → Verdict → Turn
turn_by p r l b v =
    record {
      verdict = v;
      regs = regs_after p r b v;
      array = array_after p l b v;
      out = tabulate (length b) (out_at p r l b v);
    }

-- bytes b with x leftover bits and /WP high or low, sent to a chip with registers r and array l
unfoldable pub turn_of : (p : Part) (r : Regs) (l b : List ℕ) (x : ℕ) (high : Bool) → Turn
turn_of p r l b x high = turn_by p r l b (verdict_of p r b x high)
