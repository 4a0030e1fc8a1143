use Rattle.line_rows.proofs.Rest.{rest_counted}
use Rattle.line_rows.proofs.routes.Way.by_bytes.Goals as goal

pub at-requires-clause-counted : goal.at-requires-clause-counted
at-requires-clause-counted c = rest_counted c.args.self.text.now c.args.self.place c.args.self.within c.args.self.counted c.count_breaks_up_to-more.ensures
