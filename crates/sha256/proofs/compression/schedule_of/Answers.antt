use Rattle.std.proofs.Common.{replicate, ◌∙◌, ap, arith}
use Rattle.sha256.specs.Compression.{extended, schedule}
use Rattle.std.proofs.lemmas.Slice.{take-put_mid}
use Rattle.sha256.proofs.compression.schedule_of.Goals as goal

pub returns : goal.returns
unfolding schedule
returns c = c.extend.ensures ∙ ap (extended 48)
    (take-put_mid 0 16 (replicate 64 0) c.copy_from_slice.new.self 16 (omega arith) (omega arith) ∙ c.copy_from_slice.ensures.after ∙ c.words_of.ensures)
