use Rattle.std.proofs.Common.{◌≡◌}
use Rattle.utf8.proofs.Means.{text_from_test}
use Rattle.line_rows.proofs.Stepping.{arrives}
use Rattle.line_rows.proofs.routes.to_byte_idx_impl.Goals as goal

pub returns : goal.returns
returns g c =
    let t : c.by_bytes-way-2.result.text.now ≡ c.bytes-bytes.result.now = cc in
    let counted = rw t at c.by_bytes-way-2.result.counted in
    let e = arrives c.bytes-bytes.result.now (text_from_test _ c.bytes-bytes.ensures.sound) _ c.next_char_start.result c.next_char_start.ensures counted c.by_bytes-way-2.ensures.all in cc
