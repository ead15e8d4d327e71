-- What is handed in well formed is handed back well formed: no entry's answer is refused 3 at the next call.
use mathlib.Core.Path.{◌≡◌, refl, sym, ap, ◌∙◌}
use mathlib.Core.Bool.{Bool, true, false, not, ◌&&◌, ◌||◌}
use mathlib.Core.List.{List, [], ◌∷◌}
use mathlib.Core.Logic.{⊎_elim}
use Prim.Native.Nat.{ℕ, ◌<◌}
use native.Mathlib.Omega.{arith}
use lib.ListN.{get_or, take}
use borrow.Author.Tests.{lt-ltb, le-leb}
use Rattle.lists.specs.Choice.{◌=?◌}
use Rattle.lists.proofs.Choice.{by_choice}
use Rattle.rules.specs.declared.Kept.{Kept}
use Rattle.rules.specs.declared.Regs.{Regs}
use Rattle.rules.specs.declared.Meter.{Meter}
use Rattle.rules.specs.declared.Write.{Write}
use Rattle.rules.specs.declared.Write.TheVariants.{Program, Erase, WriteStatus}
use Rattle.rules.specs.declared.Kind.{Kind}
use Rattle.rules.specs.declared.Kind.TheVariants.{WriteEnable, WriteDisable, ReadStatusLow, ReadStatusHigh, Read, FastRead, Sleep, Wake, ReadMakerDevice, ReadJedec, Writes}
use Rattle.rules.specs.declared.Verdict.{Verdict}
use Rattle.rules.specs.declared.Verdict.TheVariants.{CarriedOut, Ignored}
use Rattle.rules.specs.Status.{bit0, bit_at, flag, regs_of, status_of, kept_of, with_busy, with_wel, with_srp1, with_awake}
use Rattle.rules.specs.WellFormed.{implies, word_formed, awake_formed, well_formed}
use Rattle.rules.specs.Part.{Part}
use Rattle.rules.specs.Parts.{part_of}
use Rattle.rules.specs.Verdict.{verdict_of}
use Rattle.rules.specs.Transaction.{regs_done, regs_after, turn_of}
use Rattle.rules.specs.Events.{finished, unlatched, power_cycled}
use Rattle.rules.specs.Transact.{is_high, transact_of}
use Rattle.rules.specs.EventEntries.{EventTold, event_of, finish_of, power_cycle_of}
use Rattle.rules.specs.Tape.{Rec, transaction, finish, power_cycle, records, recs_of}
use Rattle.rules.specs.Play.{State, state, play_rec, play}
use Rattle.rules.specs.Replay.{ReplaySeen, replay_served, replay_refused, replay_first_of, replay_of}
use Rattle.laws.proofs.Flags.{flag_small}
use Rattle.laws.proofs.Steady.{Steady, never_sleeps}
use Rattle.laws.proofs.Parts.{part_steady}
use Rattle.claims.proofs.Choices.{by_check}
use Rattle.claims.proofs.Entry.{by_answer}
use Rattle.claims.proofs.Allowed.{Allowed, carried_out_is_allowed}
use Rattle.claims.proofs.RoundTrip.{formed_word, kept_back, regs_back}

-- ---- well formed, said of the registers

pub record Formed (p : Part) (r : Regs) : Type 0 where
  -- no bit that the chip lacks
  pub held : status_of r < p.status_end
  pub small : r.setting < 32
  pub busy_wel : r.busy ≡ true → r.wel ≡ true
  pub busy_awake : r.busy ≡ true → r.awake ≡ true
  pub sleepless : p.sleeps ≡ false → r.awake ≡ true

implied : (s t : Bool) → implies s t ≡ true → s ≡ true → t ≡ true
implied true t e h = e
implied false t e h = cc

implies_back : (s t : Bool) → (s ≡ true → t ≡ true) → implies s t ≡ true
implies_back true t h = h refl
implies_back false t h = refl

pub kept-formed : (p : Part) → Steady p → (k : Kept) → well_formed p k ≡ true → Formed p (regs_of k)
unfolding regs_of kept_of
kept-formed p steady k e =
    let h = formed_word p k e in
    let word : status_of (regs_of k) ≡ k.status = ap (λ (j : Kept). j.status) (kept_back p steady k e) in
    record {
      held = omega (arith, word, h.small);
      small = omega arith;
      busy_wel = implied _ _ h.busy_wel;
      busy_awake = implied _ _ h.busy_awake;
      sleepless = λ n. ap (λ (t : Bool). t || (k.awake =? 1)) (sym n) ∙ h.sleeper;
    }

or_back : (s t : Bool) → (s ≡ false → t ≡ true) → (s || t) ≡ true
or_back true t h = refl
or_back false t h = h refl

five : (s t u v w : Bool) → s ≡ true → t ≡ true → u ≡ true → v ≡ true → w ≡ true → ((s && t) && (u && v && w)) ≡ true
five s t u v w a b c d e = rw (a, b, c, d, e)

pub formed-kept : (p : Part) (r : Regs) → Formed p r → well_formed p (kept_of r) ≡ true
unfolding well_formed word_formed awake_formed kept_of regs_of
formed-kept p r h =
    let back = regs_back r h.small in
    let busy : r.busy ≡ bit0 (status_of r) = sym (ap (λ (s : Regs). s.busy) back) in
    let awake : (flag r.awake =? 1) ≡ r.awake = ap (λ (s : Regs). s.awake) back in
    five _ _ _ _ _
    (lt-ltb (status_of r) p.status_end h.held)
    (implies_back (bit0 (status_of r)) (bit_at 2 (status_of r)) (λ e. ap (λ (s : Regs). s.wel) back ∙ h.busy_wel (busy ∙ e)))
    (le-leb (flag r.awake) 1 (omega (arith, flag_small r.awake)))
    (implies_back (bit0 (status_of r)) (flag r.awake =? 1) (λ e. awake ∙ h.busy_awake (busy ∙ e)))
    (or_back p.sleeps (flag r.awake =? 1) (λ e. awake ∙ h.sleepless e))

-- ---- the word after one register was set

-- every chip has BUSY and WEL
free_bits : (p : Part) → Steady p → (r : Regs) (b w : Bool) → status_of r < p.status_end → status_of (with_wel (with_busy r b) w) < p.status_end
unfolding status_of
free_bits p steady r b w h =
    omega (arith, h, steady.low_bits, flag_small r.busy, flag_small r.wel, flag_small b, flag_small w)

-- a bit that falls leaves the word below its end
srp1_falls : (p : Part) (r : Regs) → status_of r < p.status_end → status_of (with_srp1 r false) < p.status_end
unfolding status_of
srp1_falls p r h = omega (arith, h)

-- ---- transactions and events keep it

module _ (p : Part) (steady : Steady p) (r : Regs) (b : List ℕ) (x : ℕ) (high : Bool) (h : Formed p r) where
  was_awake : (w : Write) → Allowed p r b x high (Writes w) → r.awake ≡ true
  was_awake w a = ⊎_elim (λ f. f) (λ f. absurd (steady.asleep_quiet (get_or b 0 0) w f a.known)) a.awake

  word_awake : (t : Bool) → status_of (with_awake r t) < p.status_end
  unfolding status_of
  word_awake t = h.held

  -- a write sets BUSY, on the registers t that it leaves
  written : (w : Write) → Allowed p r b x high (Writes w) → (t : Regs) → status_of t < p.status_end → t.setting < 32
      → t.wel ≡ r.wel → t.awake ≡ r.awake → Formed p (with_busy t true)
  written w a t held small wel awake =
      record {
        held = free_bits p steady t true t.wel held;
        small = small;
        busy_wel = λ e. wel ∙ (a.may_write w refl).enabled;
        busy_awake = λ e. awake ∙ was_awake w a;
        sleepless = λ e. awake ∙ h.sleepless e;
      }

  formed-idle : r.busy ≡ false → (k : Kind) → Allowed p r b x high k → Formed p (regs_done p r b k)
  formed-idle i WriteEnable a =
      record { held = free_bits p steady r r.busy true h.held; small = h.small; busy_wel = λ e. refl; busy_awake = h.busy_awake; sleepless = h.sleepless }
  formed-idle i WriteDisable a =
      record { held = free_bits p steady r r.busy false h.held; small = h.small; busy_wel = λ e. cc; busy_awake = h.busy_awake; sleepless = h.sleepless }
  formed-idle i ReadStatusLow a = h
  formed-idle i ReadStatusHigh a = h
  formed-idle i Read a = h
  formed-idle i FastRead a = h
  formed-idle i Sleep a =
      record {
        held = word_awake false;
        small = h.small;
        busy_wel = h.busy_wel;
        busy_awake = λ e. cc;
        sleepless = λ e. absurd (never_sleeps p steady e (get_or b 0 0) a.known);
      }
  formed-idle i Wake a =
      record { held = word_awake true; small = h.small; busy_wel = h.busy_wel; busy_awake = λ e. refl; sleepless = λ e. refl }
  formed-idle i ReadMakerDevice a = h
  formed-idle i ReadJedec a = h
  formed-idle i (Writes Program) a = written Program a r h.held h.small refl refl
  formed-idle i (Writes (Erase u)) a = written (Erase u) a r h.held h.small refl refl
  formed-idle i (Writes WriteStatus) a =
      written WriteStatus a (p.status_written r b) (steady.status_held r b h.held) (steady.status_small r b) (steady.status_wel r b) (steady.status_awake r b)

  formed_at : (v : Verdict) → verdict_of p r b x high ≡ v → Formed p (regs_after p r b v)
  formed_at (CarriedOut k) e =
      let a = carried_out_is_allowed p r b x high k e in
      ⊎_elim (λ i. formed-idle i k a) (λ f. rw (steady.busy_quiet (get_or b 0 0) k f a.known r b) h) a.idle
  formed_at (Ignored w) e = h

pub formed_turn : (p : Part) → Steady p → (r : Regs) (l b : List ℕ) (x : ℕ) (high : Bool) → Formed p r → Formed p (turn_of p r l b x high).regs
unfolding turn_of
formed_turn p steady r l b x high h = formed_at p steady r b x high h (verdict_of p r b x high) refl

pub formed-finished : (p : Part) → Steady p → (r : Regs) → Formed p r → Formed p (finished r)
unfolding finished
formed-finished p steady r h =
    by_choice (Formed p) r.busy (with_wel (with_busy r false) false) r
    (record { held = free_bits p steady r false false h.held; small = h.small; busy_wel = λ e. e; busy_awake = λ e. cc; sleepless = h.sleepless })
    h

pub formed_power_cycled : (p : Part) → Steady p → (r : Regs) → Formed p r → Formed p (power_cycled r)
unfolding power_cycled unlatched status_of
formed_power_cycled p steady r h =
    let t : Bool = r.srp1 && not r.srp0 in
    record {
      held = free_bits p steady (unlatched r) false false (by_choice (λ (s : Regs). status_of s < p.status_end) t (with_srp1 r false) r (srp1_falls p r h.held) h.held);
      small = by_choice (λ (s : Regs). s.setting < 32) t (with_srp1 r false) r h.small h.small;
      busy_wel = λ e. e;
      busy_awake = λ e. refl;
      sleepless = λ e. refl;
    }

formed_record : (p : Part) → Steady p → (e : Rec) (s : State) → Formed p s.regs → Formed p (play_rec p e s).regs
unfolding play_rec
formed_record p steady (transaction b x high) s h = formed_turn p steady s.regs s.array b x high h
formed_record p steady finish s h = formed-finished p steady s.regs h
formed_record p steady power_cycle s h = formed_power_cycled p steady s.regs h

pub formed-played : (p : Part) → Steady p → (es : List Rec) (s : State) → Formed p s.regs → Formed p (play p es s).regs
unfolding play
formed-played p steady [] s h = h
formed-played p steady (e ∷ es) s h = formed-played p steady es (play_rec p e s) (formed_record p steady e s h)

-- ---- the word that is handed back

-- refusal 3 is not given for it
abbrev pub Fit : ℕ → Kept → Type 0
Fit part k = well_formed (part_of part) k ≡ true

-- registers that one step keeps formed
formed_word_after : (part : ℕ) (kept : Kept) (f : Regs → Regs) → ((r : Regs) → Formed (part_of part) r → Formed (part_of part) (f r))
    → Fit part kept → Fit part (kept_of (f (regs_of kept)))
formed_word_after part kept f g e =
    formed-kept (part_of part) (f (regs_of kept)) (g (regs_of kept) (kept-formed (part_of part) (part_steady part) kept e))

module _ (part : ℕ) (kept : Kept) (formed : Fit part kept) where
  -- after a transaction, whatever its verdict
  pub formed-after : (b : List ℕ) (x : ℕ) (high : Bool)
      → Fit part (kept_of (regs_after (part_of part) (regs_of kept) b (verdict_of (part_of part) (regs_of kept) b x high)))
  formed-after b x high =
      formed_word_after part kept (λ r. regs_after (part_of part) r b (verdict_of (part_of part) r b x high))
      (λ r h. formed_at (part_of part) (part_steady part) r b x high h _ refl) formed

  pub formed-after-finish : Fit part (kept_of (finished (regs_of kept)))
  formed-after-finish = formed_word_after part kept finished (formed-finished (part_of part) (part_steady part)) formed

  pub formed_after_power_cycle : Fit part (kept_of (power_cycled (regs_of kept)))
  formed_after_power_cycle = formed_word_after part kept power_cycled (formed_power_cycled (part_of part) (part_steady part)) formed

  -- .. and so what each entry hands back, whether it serves or refuses
  pub transact_formed : (m : Meter) (l o b : List ℕ) (x wp : ℕ) → Fit part (transact_of part kept m l o b x wp).answer.regs
  transact_formed m l o b x wp =
      let h = formed-after b x (is_high wp) in
      by_answer part kept m l o b x wp (λ s. Fit part s.answer.regs) (λ c k e. rw e at h) (λ c w e. rw e at h) (λ z e i j. formed)

  pub finish-formed : Fit part (finish_of part kept).regs
  unfolding finish_of event_of
  finish-formed = by_check (λ (s : EventTold). Fit part s.regs) _ _ _ formed-after-finish (λ z. formed)

  pub power_cycle_formed : Fit part (power_cycle_of part kept).regs
  unfolding power_cycle_of event_of
  power_cycle_formed = by_check (λ (s : EventTold). Fit part s.regs) _ _ _ formed_after_power_cycle (λ z. formed)

  pub replay_first_formed : (m : Meter) (l t : List ℕ) (k : ℕ) → Fit part (replay_first_of part kept m l t k).answer.regs
  unfolding replay_first_of replay_served replay_refused
  replay_first_formed m l t k =
      by_check (λ (s : ReplaySeen). Fit part s.answer.regs) _ _ _
      (formed_word_after part kept (λ r. (play (part_of part) (take k (recs_of t)) (state r l m)).regs)
      (λ r h. formed-played (part_of part) (part_steady part) (take k (recs_of t)) (state r l m) h) formed)
      (λ z. formed)

  pub replay_formed : (m : Meter) (l t : List ℕ) → Fit part (replay_of part kept m l t).answer.regs
  unfolding replay_of
  replay_formed m l t = replay_first_formed m l t (records t)
