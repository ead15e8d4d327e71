-- The registers taken apart and put together again: nothing of a well-formed word is lost, and nothing is added.
use mathlib.Core.Path.{◌≡◌, refl, sym, ap, ◌∙◌}
use mathlib.Core.Bool.{Bool, true, false, ◌&&◌, ◌||◌}
use Prim.Native.Nat.{ℕ, ◌+◌, ◌*◌, ◌/◌, ◌%◌, ◌≤◌, ◌<◌}
use native.Mathlib.Omega.{arith}
use native.Mathlib.Nat.{add_comm, mod-eq_of_lt, div-add-mod', div-div-eq-div-mul}
use lib.Arith.{digits_div, digits_mod}
use lib.Dec.{eqb}
use borrow.Author.Tests.{eqb-true, eqb-false, eq-eqb, ne_eqb, ltb-true, leb-true}
use Rattle.lists.specs.Choice.{◌=?◌, ◌<?◌, ◌≤?◌}
use Rattle.lists.proofs.Choice.{both_true}
use Rattle.rules.specs.declared.Kept.{Kept}
use Rattle.rules.specs.declared.Regs.{Regs}
use Rattle.rules.specs.Part.{Part}
use Rattle.rules.specs.Status.{bit0, bit_at, flag, regs_of, status_of, kept_of}
use Rattle.rules.specs.WellFormed.{implies, word_formed, awake_formed, well_formed}
use Rattle.laws.proofs.Flags.{flag_small}
use Rattle.laws.proofs.Steady.{Steady}

-- ---- bits

-- a number below 2 is the flag of its test
bit_back : (n : ℕ) → n < 2 → flag (n =? 1) ≡ n
bit_back n h = go (n =? 1) refl
  where
    go : (t : Bool) → eqb n 1 ≡ t → flag t ≡ n
    go true e = sym (eqb-true n 1 e)
    go false e = let k = eqb-false n 1 e in omega arith

-- what stands from weight m on: c values at m, and the rest from m * c on
split : (w m c : ℕ) → w / m ≡ w / m % c + w / (m * c) * c
split w m c =
    sym (div-add-mod' (w / m) c) ∙ add_comm _ _ ∙ ap (λ (q : ℕ). w / m % c + q * c) (div-div-eq-div-mul w m c)

put_together : (w r0 q0 r1 q1 r2 q2 r3 q3 r4 q4 : ℕ)
    → w ≡ r0 + q0 * 2 → q0 ≡ r1 + q1 * 2 → q1 ≡ r2 + q2 * 32 → q2 ≡ r3 + q3 * 2 → q3 ≡ r4 + q4 * 2
    → r0 + r1 * 2 + r2 * 4 + r3 * 128 + r4 * 256 + q4 * 512 ≡ w
put_together w r0 q0 r1 q1 r2 q2 r3 q3 r4 q4 e0 e1 e2 e3 e4 = omega arith

-- the bits of a word below 1,024 make the word
bits_make : (w : ℕ) → w < 1024
    → w % 2 + w / 2 % 2 * 2 + w / 4 % 32 * 4 + w / 128 % 2 * 128 + w / 256 % 2 * 256 + w / 512 % 2 * 512 ≡ w
bits_make w h =
    let e : w / 512 % 2 ≡ w / 512 = mod-eq_of_lt (omega arith) in
    rw e
    (put_together w (w % 2) (w / 2) (w / 2 % 2) (w / 4) (w / 4 % 32) (w / 128) (w / 128 % 2) (w / 256) (w / 256 % 2) (w / 512)
    (omega arith) (split w 2 2) (split w 4 32) (split w 128 2) (split w 256 2))

-- ---- the word from the registers

-- each part of "well formed", as facts
pub record FormedWord (p : Part) (k : Kept) : Type 0 where
  pub small : k.status < p.status_end
  pub flagged : k.awake ≤ 1
  pub busy_wel : implies (bit0 k.status) (bit_at 2 k.status) ≡ true
  pub busy_awake : implies (bit0 k.status) (k.awake =? 1) ≡ true
  pub sleeper : (p.sleeps || (k.awake =? 1)) ≡ true

pub formed_word : (p : Part) (k : Kept) → well_formed p k ≡ true → FormedWord p k
unfolding well_formed word_formed awake_formed
formed_word p k e =
    let s : Bool = k.status <? p.status_end in
    let t : Bool = k.awake ≤? 1 in
    let u : Bool = implies (bit0 k.status) (bit_at 2 k.status) in
    let v : Bool = implies (bit0 k.status) (k.awake =? 1) in
    let a = both_true (s && u) _ e in
    let b = both_true s u a.0 in
    let c = both_true (t && v) _ a.1 in
    let d = both_true t v c.0 in
    record { small = ltb-true _ _ b.0; flagged = leb-true _ _ d.0; busy_wel = b.1; busy_awake = d.1; sleeper = c.1 }

pub kept_back : (p : Part) → Steady p → (k : Kept) → well_formed p k ≡ true → kept_of (regs_of k) ≡ k
unfolding kept_of regs_of status_of
kept_back p steady k e =
    let h = formed_word p k e in
    let w = k.status in
    let small : w < 1024 = omega (arith, h.small, steady.ends) in
    let s : status_of (regs_of k) ≡ w =
    rw (bit_back (w % 2) (omega arith), bit_back (w / 2 % 2) (omega arith))
    (rw (bit_back (w / 128 % 2) (omega arith), bit_back (w / 256 % 2) (omega arith), bit_back (w / 512 % 2) (omega arith)) (bits_make w small)) in
    let a = bit_back k.awake (omega arith) in
    λ i. record { status = s i; awake = a i }

-- ---- the registers from the word

-- a test of a bit that is t's
flag_back : (t : Bool) (n : ℕ) → n ≡ flag t → (n =? 1) ≡ t
flag_back true n e = eq-eqb n 1 e
flag_back false n e = ne_eqb n 1 (λ q. omega arith)

-- the digit of a number at a weight m, c values wide
digit : (s q m r c d : ℕ) → s ≡ (q * c + d) * m + r → r < m → d < c → s / m % c ≡ d
digit s q m r c d e h k = ap (λ (n : ℕ). n / m % c) e ∙ ap (λ (n : ℕ). n % c) (digits_div (q * c + d) h) ∙ digits_mod q k

abbrev word : ℕ → ℕ → ℕ → ℕ → ℕ → ℕ → ℕ
word b w s p0 p1 q = b + w * 2 + s * 4 + p0 * 128 + p1 * 256 + q * 512

record Digits (b w s p0 p1 q : ℕ) : Type 0 where
  at0 : word b w s p0 p1 q % 2 ≡ b
  at1 : word b w s p0 p1 q / 2 % 2 ≡ w
  at2 : word b w s p0 p1 q / 4 % 32 ≡ s
  at7 : word b w s p0 p1 q / 128 % 2 ≡ p0
  at8 : word b w s p0 p1 q / 256 % 2 ≡ p1
  at9 : word b w s p0 p1 q / 512 % 2 ≡ q

digits : (b w s p0 p1 q : ℕ) → b < 2 → w < 2 → s < 32 → p0 < 2 → p1 < 2 → q < 2 → Digits b w s p0 p1 q
digits b w s p0 p1 q hb hw hs h0 h1 hq =
    let n = word b w s p0 p1 q in
    let e : n ≡ (w + s * 2 + p0 * 64 + p1 * 128 + q * 256) * 2 + b = omega arith in
    record {
      at0 = ap (λ (m : ℕ). m % 2) e ∙ digits_mod _ hb;
      at1 = digit n (s + p0 * 32 + p1 * 64 + q * 128) 2 b 2 w (omega arith) hb hw;
      at2 = digit n (p0 + p1 * 2 + q * 4) 4 (b + w * 2) 32 s (omega arith) (omega arith) hs;
      at7 = digit n (p1 + q * 2) 128 (b + w * 2 + s * 4) 2 p0 (omega arith) (omega arith) h0;
      at8 = digit n q 256 (b + w * 2 + s * 4 + p0 * 128) 2 p1 (omega arith) (omega arith) h1;
      at9 = digit n 0 512 (b + w * 2 + s * 4 + p0 * 128 + p1 * 256) 2 q (omega arith) (omega arith) hq;
    }

pub regs_back : (r : Regs) → r.setting < 32 → regs_of (kept_of r) ≡ r
unfolding kept_of regs_of status_of
regs_back r h =
    let d =
    digits (flag r.busy) (flag r.wel) r.setting (flag r.srp0) (flag r.srp1) (flag r.qe)
    (flag_small r.busy) (flag_small r.wel) h (flag_small r.srp0) (flag_small r.srp1) (flag_small r.qe) in
    λ i. record {
      busy = flag_back r.busy _ d.at0 i;
      wel = flag_back r.wel _ d.at1 i;
      setting = d.at2 i;
      srp0 = flag_back r.srp0 _ d.at7 i;
      srp1 = flag_back r.srp1 _ d.at8 i;
      qe = flag_back r.qe _ d.at9 i;
      awake = flag_back r.awake _ refl i;
    }
