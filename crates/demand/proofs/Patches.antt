-- One patch inside another's stretch, and two patches end to end.
use mathlib.Core.Path.{◌≡◌, sym, ap, ◌∙◌}
use mathlib.Core.Bool.{Bool}
use mathlib.Core.List.{List}
use Prim.Native.Nat.{ℕ, ◌+◌, ◌-◌, ◌≤◌, ◌<◌}
use native.Mathlib.Omega.{arith}
use lib.ListN.{length, get_or}
use lib.Seq.{ext_get_or}
use Rattle.lists.specs.Choice.{if◌then◌otherwise◌}
use Rattle.lists.specs.Places.{patched}
use Rattle.lists.proofs.Choice.{if-false}
use Rattle.lists.proofs.Patched.{within, by_place, within_below, within_above, patched-length, patched_at, patched_inside, patched_below, patched_above}

-- a patch that puts back the old outside of a narrower stretch is a patch of that stretch
pub patched_narrow : (l : List ℕ) (p m a n : ℕ) (f g : ℕ → ℕ) → p ≤ a → a + n ≤ p + m → p + m ≤ length l
    → ((x : ℕ) → p ≤ x → x < p + m → f (x - p) ≡ (if within a n x then g (x - a) otherwise get_or l x 0)) → patched l p m f ≡ patched l a n g
patched_narrow l p m a n f g h k fits same =
    ext_get_or 0 (patched l p m f) (patched l a n g) (patched-length l p m f fits ∙ sym (patched-length l a n g (omega arith)))
    (λ x q. place x ∙ sym (patched_at l a n g x (omega arith)))
  where
    place : (x : ℕ) → get_or (patched l p m f) x 0 ≡ (if within a n x then g (x - a) otherwise get_or l x 0)
    place x =
        by_place (λ (t : Bool). get_or (patched l p m f) x 0 ≡ (if within a n x then g (x - a) otherwise get_or l x 0)) p m x
        (λ q r. patched_inside l p m f x (omega arith) q r ∙ same x q r)
        (λ q. patched_below l p m f x (omega arith) q ∙ sym (if-false (within a n x) _ _ (within_below a n x (omega arith))))
        (λ q. patched_above l p m f x (omega arith) q ∙ sym (if-false (within a n x) _ _ (within_above a n x (omega arith))))

-- a patch of k places and one of the m places after them are one patch
pub patched_twice : (l : List ℕ) (a k m : ℕ) (f g h : ℕ → ℕ) → a + (k + m) ≤ length l
    → ((j : ℕ) → j < k → f j ≡ h j) → ((j : ℕ) → j < m → g j ≡ h (k + j))
    → patched (patched l a k f) (a + k) m g ≡ patched l a (k + m) h
patched_twice l a k m f g h fits first second =
    ext_get_or 0 (patched (patched l a k f) (a + k) m g) (patched l a (k + m) h)
    (patched-length (patched l a k f) (a + k) m g (omega (arith, long)) ∙ long ∙ sym (patched-length l a (k + m) h fits))
    (λ x q. place x)
  where
    long : length (patched l a k f) ≡ length l
    long = patched-length l a k f (omega arith)

    place : (x : ℕ) → get_or (patched (patched l a k f) (a + k) m g) x 0 ≡ get_or (patched l a (k + m) h) x 0
    place x =
        by_place (λ (t : Bool). get_or (patched (patched l a k f) (a + k) m g) x 0 ≡ get_or (patched l a (k + m) h) x 0) (a + k) m x
        (λ q r. let e : k + (x - (a + k)) ≡ x - a = omega arith in
        patched_inside (patched l a k f) (a + k) m g x (omega (arith, long)) q r
        ∙ second (x - (a + k)) (omega arith)
        ∙ ap h e
        ∙ sym (patched_inside l a (k + m) h x (omega arith) (omega arith) (omega arith)))
        (λ q. patched_below (patched l a k f) (a + k) m g x (omega (arith, long)) q
        ∙ by_place (λ (t : Bool). get_or (patched l a k f) x 0 ≡ get_or (patched l a (k + m) h) x 0) a k x
        (λ r s. patched_inside l a k f x (omega arith) r s
        ∙ first (x - a) (omega arith)
        ∙ sym (patched_inside l a (k + m) h x (omega arith) r (omega arith)))
        (λ r. patched_below l a k f x (omega arith) r ∙ sym (patched_below l a (k + m) h x (omega arith) r))
        (λ r. absurd (omega arith)))
        (λ q. patched_above (patched l a k f) (a + k) m g x (omega (arith, long)) q
        ∙ patched_above l a k f x (omega arith) (omega arith)
        ∙ sym (patched_above l a (k + m) h x (omega arith) (omega arith)))
