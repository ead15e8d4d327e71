-- A record's bytes put into its 264 bytes are the encoded record.
use mathlib.Core.Path.{◌≡◌, sym, ap, ◌∙◌}
use mathlib.Core.List.{List, [], ◌∷◌, ◌++◌}
use Prim.Native.Nat.{ℕ, ◌+◌, ◌-◌, ◌≤◌}
use native.Mathlib.Omega.{arith}
use lib.ListN.{length, take, drop, set, replicate, length-replicate, replicate-append-replicate}
use lib.Seq.{drop_at, drop-drop}
use Rattle.rules.specs.Tape.{finish, encode_rec}

zeros_left : (n m : ℕ) → drop n (replicate (n + m) 0) ≡ replicate {A = ℕ} m 0
zeros_left n m = ap (drop n) (sym (replicate-append-replicate n m 0)) ∙ drop_at (replicate n 0) (replicate m 0) n (length-replicate n 0)

-- four head bytes, then b over what r begins with
over : (r y w b : List ℕ) (h₀ h₁ h₂ h₃ : ℕ) → y ≡ h₀ ∷ h₁ ∷ h₂ ∷ h₃ ∷ r → w ≡ take 4 y ++ b ++ drop (4 + length b) y
    → w ≡ h₀ ∷ h₁ ∷ h₂ ∷ h₃ ∷ b ++ drop (length b) r
over r y w b h₀ h₁ h₂ h₃ q s =
    s ∙ rw q (ap (λ (l : List ℕ). h₀ ∷ h₁ ∷ h₂ ∷ h₃ ∷ b ++ l) (sym (drop-drop (length b) 4 (h₀ ∷ h₁ ∷ h₂ ∷ h₃ ∷ r))))

-- z is cleared, y has the head bytes, w has b too
pub transaction_written : (z y w b : List ℕ) (n h₀ h₁ h₂ h₃ : ℕ) → n ≡ 264 → length b ≤ 260 → z ≡ replicate n 0
    → y ≡ take 0 z ++ (h₀ ∷ h₁ ∷ h₂ ∷ h₃ ∷ []) ++ drop 4 z → w ≡ take 4 y ++ b ++ drop (4 + length b) y
    → w ≡ h₀ ∷ h₁ ∷ h₂ ∷ h₃ ∷ b ++ replicate (260 - length b) 0
transaction_written z y w b n h₀ h₁ h₂ h₃ l h p q s =
    let d : n ≡ 4 + (length b + (260 - length b)) = omega arith in
    over (drop 4 z) y w b h₀ h₁ h₂ h₃ q s
    ∙ ap (λ (r : List ℕ). h₀ ∷ h₁ ∷ h₂ ∷ h₃ ∷ b ++ drop (length b) r)
    (ap (drop 4) (p ∙ ap (λ (k : ℕ). replicate k 0) d) ∙ zeros_left 4 (length b + (260 - length b)))
    ∙ ap (λ (r : List ℕ). h₀ ∷ h₁ ∷ h₂ ∷ h₃ ∷ b ++ r) (zeros_left (length b) (260 - length b))

pub finish_written : (l : List ℕ) (n : ℕ) → n ≡ 264 → l ≡ replicate n 0 → set l 2 1 ≡ encode_rec finish
unfolding encode_rec
finish_written l n e q = rw (q, e)
