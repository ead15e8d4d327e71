-- The kinds that write nothing.
use mathlib.Core.Path.{◌≡◌, refl}
use Rattle.rules.specs.declared.Write.{Write}
use Rattle.rules.specs.declared.Kind.{Kind}
use Rattle.rules.specs.declared.Kind.TheVariants.{WriteEnable, WriteDisable, ReadStatusLow, ReadStatusHigh, Read, FastRead, Sleep, Wake, ReadMakerDevice, ReadJedec, Writes}
use Rattle.rules.specs.Kinds.{of_write}

pub no_write {ℓ} : {A : Type ℓ} (k : Kind) → ((w : Write) → k ≡ Writes w → ⊥) → (d : A) (f : Write → A) → of_write k d f ≡ d
unfolding of_write
no_write WriteEnable h d f = refl
no_write WriteDisable h d f = refl
no_write ReadStatusLow h d f = refl
no_write ReadStatusHigh h d f = refl
no_write Read h d f = refl
no_write FastRead h d f = refl
no_write Sleep h d f = refl
no_write Wake h d f = refl
no_write ReadMakerDevice h d f = refl
no_write ReadJedec h d f = refl
no_write (Writes w) h d f = absurd (h w refl)
