-- Bytes that are a job's from a place on say there what they say by themselves.
use Rattle.std.specs.Array.{IsFromFnResultFrom}
use Rattle.std.specs.Fn.{Called}
use denote.Param.Members.{Mut}
use mathlib.Core.Path.{◌≡◌, refl, ◌∙◌, subst}
use mathlib.Core.Logic.{⊎_elim}
use mathlib.Core.List.{List}
use Prim.Native.Nat.{ℕ, zero, suc, ◌+◌, ◌<◌, ◌≤◌}
use native.Mathlib.Nat.{add-zero, eq-or-lt_of_le}
use native.Mathlib.Omega.{arith}
use lib.ListN.{get_or, drop}
use lib.Seq.{get_or-drop}
use Rattle.lists.specs.Places.{every_in}
use Rattle.rules.specs.Job.{number4, zeros, decoded_erase, decoded_lay, decoded_guard, decoded_at}

-- n bytes of s from place i on, and of a job from place b on
Alike : (s job : List ℕ) (i b n : ℕ) → Type 0
Alike s job i b n = (k : ℕ) → k < n → get_or s (i + k) 0 ≡ get_or job (b + k) 0

same_zeros : (s job : List ℕ) (i b n : ℕ) → Alike s job i b n → zeros s i n ≡ zeros job b n
unfolding every_in Alike
same_zeros s job i b zero h = refl
same_zeros s job i b (suc n) h =
    let ih = same_zeros s job (suc i) (suc b) n
    (λ k l. let d : suc i + k ≡ i + suc k = omega arith in
    let e : suc b + k ≡ b + suc k = omega arith in
    rw (d, e) (h (suc k) (omega arith))) in
    let z = rw (add-zero i, add-zero b) at (h 0 (omega arith)) in
    rw (z, ih)

same_number : (s job : List ℕ) (i b : ℕ) → Alike s job i b 4 → number4 s i ≡ number4 job b
unfolding Alike
same_number s job i b h =
    let z = rw (add-zero i, add-zero b) at (h 0 (omega arith)) in
    rw (z, h 1 (omega arith), h 2 (omega arith), h 3 (omega arith))

pub same_step : (s job : List ℕ) (a : ℕ) → ((k : ℕ) → k < 16 → get_or s k 0 ≡ get_or job (a + k) 0) → decoded_at s 0 ≡ decoded_at job a
unfolding decoded_at decoded_erase decoded_lay decoded_guard Alike
same_step s job a h =
    let part : (i n : ℕ) → i + n ≤ 16 → Alike s job i (a + i) n = λ i n l k m. (let e : (a + i) + k ≡ a + (i + k) = omega arith in rw e (h (i + k) (omega arith))) in
    let b0 = rw (add-zero a) at (h 0 (omega arith)) in
    rw (
      b0,
      h 1 (omega arith),
      same_zeros s job 2 (a + 2) 2 (part 2 2 (omega arith)),
      same_zeros s job 4 (a + 4) 12 (part 4 12 (omega arith)),
      same_zeros s job 8 (a + 8) 8 (part 8 8 (omega arith)),
      same_number s job 4 (a + 4) (part 4 4 (omega arith)),
      same_number s job 8 (a + 8) (part 8 4 (omega arith)),
      same_number s job 12 (a + 12) (part 12 4 (omega arith)),
    )

-- .. and so do bytes that are those of what is left of a job from a place on
pub same_left : (s job : List ℕ) (a : ℕ) → ((k : ℕ) → k < 16 → get_or s k 0 ≡ get_or (drop a job) k 0) → decoded_at s 0 ≡ decoded_at job a
same_left s job a h = same_step s job a (λ k l. h k l ∙ get_or-drop a job k 0)

-- what `from_fn` made of n places from i on, by calls that leave the closure as it was
pub made : {F : Type 0} {g : Mut F (ℕ × Unit {0}) ℕ} (w : ℕ → ℕ) (f : F) (ys : List ℕ) (i n : ℕ)
    → ((k y : ℕ) (q : F) → Called g f (k, tt) y q → (q ≡ f) × (y ≡ w k))
    → IsFromFnResultFrom g f ys i n → (k : ℕ) → i ≤ k → k < i + n → get_or ys k 0 ≡ w k
made {F} {g} w f ys i zero c h k a b = absurd (omega arith)
made {F} {g} w f ys i (suc n) c h k a b =
    let x = c i h.1 h.0 h.3 in
    let rest = subst (λ (q : F). IsFromFnResultFrom g q ys (i + 1) n) x.0 h.4 in
    ⊎_elim
    (λ (e : i ≡ k). subst (λ (j : ℕ). get_or ys j 0 ≡ w j) e (h.2.1 0 ∙ x.1))
    (λ (l : i < k). made w f ys (i + 1) n c rest k (omega arith) (omega arith))
    (eq-or-lt_of_le a)
