use Rattle.lms.proofs.Judged.{leads}
use Rattle.lms.proofs.verify.Seal.candidate_root.Goals as goal

pub returns : goal.returns
returns c bytes is =
    leads _ _ bytes c.candidate_key.result c.leaf_of-leaf.result c.climb.result c.args.self.now.path.now c.args.self.now.leaf is.0 is.3 (c.candidate_key.ensures bytes is) c.leaf_of-leaf.ensures c.climb.ensures
