use Rattle.std.proofs.Common.{◌∙◌, []}
use Rattle.certificate.proofs.text.cert_length.Goals as goal

pub returns : goal.returns
returns c = c.bytes.ensures ∙ c.in-Ok.ensures [] c.new-out.ensures
