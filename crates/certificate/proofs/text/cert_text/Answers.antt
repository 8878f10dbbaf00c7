use Rattle.std.proofs.Common.{◌∙◌, []}
use Rattle.certificate.proofs.text.cert_text.Goals as goal

pub returns : goal.returns
returns c = c.into_bytes.ensures ∙ c.in_ok-put_certificate.ensures [] c.new-out.ensures
