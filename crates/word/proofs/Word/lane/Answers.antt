use Rattle.std.proofs.Common.{rules, ◌≡◌, get_or, ap, ◌∙◌}
use Rattle.word.proofs.Eight.{eight_bytes}
use Rattle.word.proofs.Word.lane.Goals as goal

pub returns : goal.returns
returns c =
    let lane : c.unwrap_or.result ≡ get_or c.to_le_bytes.result c.args.place 0 = search rules in
    lane ∙ ap (λ bytes. get_or bytes c.args.place 0) (c.to_le_bytes.ensures ∙ eight_bytes c.args.self.bits)
