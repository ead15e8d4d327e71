-- What demand 3 says of a job and of the tape that `translate` wrote for it.
use Rattle.std.specs.Prelude.{◌≡◌, List, ℕ, length, take}
use Rattle.rules.specs.declared.Kept.{Kept}
use Rattle.rules.specs.declared.Meter.{Meter}
use Rattle.rules.specs.declared.Bill.{Bill}
use Rattle.rules.specs.Parts.{part_of}
use Rattle.rules.specs.Status.{regs_of, kept_of}
use Rattle.rules.specs.Tape.{recs_of}
use Rattle.rules.specs.Play.{state}
use Rattle.rules.specs.Replay.{played_told, replay_seen, replay_of}
use Rattle.rules.specs.Job.{steps_of, array_meant, all_regs_meant}
use Rattle.rules.specs.Translate.{translate_of, quote_of}
use Rattle.demand.specs.Raised.{raised}
use Rattle.demand.specs.Ignored.{ignored_in}

-- the tape: the bytes that `translate` wrote
abbrev pub tape_written : ℕ → ℕ → List ℕ → List ℕ → List ℕ → List ℕ
tape_written part s job payload buffer =
    take (translate_of part s job payload buffer).answer.length (translate_of part s job payload buffer).tape

-- the figures that the job alone gives
abbrev pub figures : ℕ → ℕ → List ℕ → List ℕ → Bill
figures part s job payload = (quote_of part s job (length payload)).bill

-- the tape t means the job: played on kept, m and l it is served, leaves the array and the registers of the job's own
-- meaning, raises the meter by the job's figures, and no transaction of it is ignored
pub record Means (part s : ℕ) (job payload t : List ℕ) (kept : Kept) (m : Meter) (l : List ℕ) : Type 0 where
  pub played :
      replay_of part kept m l t
      ≡ replay_seen
      (played_told (kept_of (all_regs_meant (part_of part) (regs_of kept) (steps_of job))) (raised m (figures part s job payload)))
      (array_meant (part_of part) payload l (steps_of job))
  pub none_ignored : ignored_in (part_of part) (recs_of t) (state (regs_of kept) l m) ≡ 0
  pub long : length t ≡ (figures part s job payload).length
