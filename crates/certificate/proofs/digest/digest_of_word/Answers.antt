use Rattle.std.proofs.Common.{◌≡◌, sym, true}
use Rattle.std.specs.List.{list_all}
use Rattle.hex.specs.Hex.{decode_sized}
use Rattle.certificate.specs.Digests.{is_lower_digit}
use Rattle.certificate.proofs.DigestFacts.{decoded_ok}
use Rattle.certificate.proofs.digest.digest_of_word.Goals as goal

pub returns-in-Ok : goal.returns-in-Ok
returns-in-Ok c =
    let all : list_all is_lower_digit c.args.word.now ≡ true = cc in
    rw all (sym (decoded_ok (decode_sized c.args.word.now 32) c.decode_to_slice.new.out
    c.decode_to_slice.result c.in-Ok.field-0 c.decode_to_slice.ensures.value c.in-Ok.is))
