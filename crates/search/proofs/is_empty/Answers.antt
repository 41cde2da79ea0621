use Rattle.search.proofs.Tails.{empty_lowest}
use Rattle.search.proofs.is_empty.Goals as goal

pub returns : goal.returns
returns c = empty_lowest c.args.marks.now c.lowest.result c.is_none.result c.lowest.ensures c.is_none.ensures
