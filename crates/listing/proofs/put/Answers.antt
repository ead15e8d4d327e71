use Rattle.listing.proofs.Next.{next_fits}
use Rattle.listing.proofs.put.Goals as goal

pub overflow_add-done : goal.overflow_add-done
overflow_add-done c =
    record { fits = next_fits c.args.tape.now c.args.done.now c.args.bytes.now c.requires }
