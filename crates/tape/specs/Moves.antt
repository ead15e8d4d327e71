-- What a reader's read answers, and the reader after it.
use Rattle.rules.specs.Reading.{AtPlace, ReadTold, read_told, read_of}
use Rattle.tape.specs.declared.Reader.{Reader}

-- an answer, told at the reader's place
abbrev pub told : Reader → AtPlace → ReadTold
told r = read_told r.place

abbrev pub found : Reader → ReadTold
found r = read_of r.bytes.now r.place

abbrev pub after : Reader → Reader
after r = record { bytes = r.bytes; place = (found r).next }
