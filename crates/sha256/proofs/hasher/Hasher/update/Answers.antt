use Rattle.std.proofs.Common.{◌-◌, ◌%◌, refl, arith}
use Rattle.sha256.specs.Hasher.{after}
use Rattle.sha256.proofs.Puts.{put_after, put_to_end, left_in_front}
use Rattle.sha256.proofs.Taken.{keeps, fills}
use Rattle.sha256.proofs.hasher.Hasher.update.Goals as goal

pub returns-then-part-room : goal.returns-then-part-room
unfolding after
returns-then-part-room c rest =
    keeps _ _ _ _ rest _ _ (omega arith) refl (omega arith) (put_after _ _ _ _ _ (omega arith) c.copy_from_slice.ensures.after)

pub returns-else-part-room : goal.returns-else-part-room
unfolding after
returns-else-part-room c rest =
    rw (c.fold_blocks-self.ensures, c.compress-first.ensures)
    (fills _ _ _ _ _ c.split_at.result.0.now c.split_at.result.1.now rest _ _ (omega arith) c.split_at.ensures.by_index.0 (omega arith) refl
    (put_to_end (c.args.self.now.length % 64) (64 - c.args.self.now.length % 64) c.args.self.now.block _ _ (omega arith) c.copy_from_slice-else-part-room.ensures.after)
    (left_in_front _ _ _ c.copy_from_slice-else-part-room-2.ensures.after))
