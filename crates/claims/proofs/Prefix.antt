-- Playing the first k records gives the rules' state after k, for every k: a replay cannot do it all at the first record.
use mathlib.Core.Path.{◌≡◌, refl, ap, ◌∙◌}
use mathlib.Core.List.{List, [], ◌∷◌, ◌++◌}
use Prim.Native.Nat.{ℕ, zero, suc, ◌+◌, ◌≤◌, ◌<◌}
use native.Mathlib.Omega.{arith}
use native.Mathlib.Nat.{zero-add}
use lib.ListN.{length, get_or, take}
use lib.Seq.{take-suc, take_all}
use Rattle.rules.specs.declared.Kept.{Kept}
use Rattle.rules.specs.declared.Meter.{Meter}
use Rattle.rules.specs.Part.{Part}
use Rattle.rules.specs.Tape.{Rec, finish, rec_at, recs_from, records, recs_of}
use Rattle.rules.specs.Play.{State, play_rec, play}
use Rattle.rules.specs.Replay.{replay_first_of, replay_of}

pub play-append : (p : Part) (xs ys : List Rec) (s : State) → play p (xs ++ ys) s ≡ play p ys (play p xs s)
unfolding play
play-append p [] ys s = refl
play-append p (x ∷ xs) ys s = play-append p xs ys (play_rec p x s)

-- one record more is that record, played on the state after those before it
pub play_one_more : (p : Part) (es : List Rec) (k : ℕ) (d : Rec) (s : State) → k < length es
    → play p (take (suc k) es) s ≡ play_rec p (get_or es k d) (play p (take k es) s)
unfolding play
play_one_more p es k d s h =
    ap (λ (xs : List Rec). play p xs s) (take-suc es k d h) ∙ play-append p (take k es) (get_or es k d ∷ []) s

-- ---- of a tape

recs_length : (t : List ℕ) (p n : ℕ) → length (recs_from t p n) ≡ n
unfolding recs_from
recs_length t p zero = refl
recs_length t p (suc n) = ap suc (recs_length t (suc p) n)

recs_at : (t : List ℕ) (p n i : ℕ) (d : Rec) → i < n → get_or (recs_from t p n) i d ≡ rec_at t (p + i)
unfolding recs_from
recs_at t p zero i d h = absurd (omega arith)
recs_at t p (suc n) zero d h = ap (rec_at t) (omega arith)
recs_at t p (suc n) (suc i) d h = recs_at t (suc p) n i d (omega arith) ∙ ap (rec_at t) (omega arith)

-- one record of the tape more
pub play_record : (p : Part) (t : List ℕ) (k : ℕ) (s : State) → k < records t
    → play p (take (suc k) (recs_of t)) s ≡ play_rec p (rec_at t k) (play p (take k (recs_of t)) s)
play_record p t k s h =
    play_one_more p (recs_of t) k finish s (omega (arith, recs_length t 0 (records t)))
    ∙ ap (λ (e : Rec). play_rec p e (play p (take k (recs_of t)) s)) (recs_at t 0 (records t) k finish h ∙ ap (rec_at t) (zero-add k))

-- the whole tape is its first records, all of them
pub replay_is_replay_first : (part : ℕ) (kept : Kept) (m : Meter) (l t : List ℕ) → replay_of part kept m l t ≡ replay_first_of part kept m l t (records t)
unfolding replay_of
replay_is_replay_first part kept m l t = refl

-- .. and asked for more than there are, a replay of the first plays all
pub replay_first_past : (part : ℕ) (kept : Kept) (m : Meter) (l t : List ℕ) (k : ℕ) → records t ≤ k → replay_first_of part kept m l t k ≡ replay_of part kept m l t
unfolding replay_of replay_first_of
replay_first_past part kept m l t k h =
    let e : length (recs_of t) ≡ records t = recs_length t 0 (records t) in
    rw (take_all k (recs_of t) (omega arith), take_all (records t) (recs_of t) (omega arith))
