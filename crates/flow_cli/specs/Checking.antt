-- What is answered where a certificate of a day is to be checked, or explained.
use Rattle.std.specs.Prelude.{◌≡◌, ◌⊎◌, List, [], ℕ, Option, IfSome, Ok, Err}
use Rattle.sha2.specs.Sha256.{sha256}
use Rattle.flow_outside.specs.Held.{Held}
use Rattle.flow_outside.specs.Seen.{FilesSeen}
use Rattle.flow_types.specs.declared.parts.Parts.{Parts}
use Rattle.flow_types.specs.Bounds.{IsBound}
use Rattle.flow_types.specs.Feasible.{IsFeasible}
use Rattle.time_windows.specs.Boxes.{root_box}
use Rattle.certificate.specs.Limits.{most_cert_bytes}
use Rattle.cert_checker.specs.declared.claim.CertClaim.{CertClaim}
use Rattle.cert_checker.specs.declared.fault.CertFault.{CertFault}
use Rattle.cert_checker.specs.Checks.{IsChecked}
use Rattle.cert_checker.specs.Accepted.{cost_of}
use Rattle.delay_report.specs.Claims.{Claimed}
use Rattle.delay_report.specs.Delays.{IsExplained}
use Rattle.delay_report.specs.Refusals.{refused_text}
use Rattle.delay_report.specs.Texts.{claim_text}
use Rattle.flow_cli.specs.declared.status.Status.TheVariants.{BadCertificate, Done}
use Rattle.command_words.specs.declared.command.View.{View}
use Rattle.command_words.specs.declared.command.View.TheVariants.{Claim, Delays}
use Rattle.flow_cli.specs.Outside.{Change, Printed}
use Rattle.flow_cli.specs.Reading.{IsDayOf, IsFailed, IsTooMany, IsWithoutDay}

-- what a claim says
abbrev pub claimed_by : CertClaim → Claimed
claimed_by claim = record {
  plan = claim.plan;
  cost = claim.cost;
  bound = claim.bound;
  nodes = claim.nodes;
}

-- The text shows the claim: by its four lines, or with its delays.
abbrev pub IsShown : Parts → View → Claimed → List ℕ → Type 0
IsShown parts Claim claimed text = text ≡ claim_text claimed.cost claimed.bound claimed.nodes
IsShown parts Delays claimed text = IsExplained parts claimed text

-- The certificate is accepted: its claim is printed, and it holds. No plan that keeps every rule
-- costs less than the bound; a plan that is claimed keeps every rule, and costs what is printed.
pub record TellsClaim (held : Option Held) (parts : Parts) (digest cert : List ℕ) (view : View)
    (answer : Printed) : Type 0 where
  pub claim : CertClaim
  pub checked : IsChecked parts (root_box parts) digest held cert (Ok claim)
  pub below : IsBound parts claim.bound
  pub feasible : IfSome claim.plan (IsFeasible parts)
  pub cost : claim.cost ≡ cost_of parts claim.plan
  pub ends : answer.status ≡ Done
  pub text : IsShown parts view (claimed_by claim) answer.text
  pub no_record : answer.records ≡ []

-- it is refused: its first fault is printed
pub record TellsFault (held : Option Held) (parts : Parts) (digest cert : List ℕ)
    (answer : Printed) : Type 0 where
  pub fault : CertFault
  pub checked : IsChecked parts (root_box parts) digest held cert (Err fault)
  pub ends : answer.status ≡ BadCertificate
  pub text : answer.text ≡ refused_text parts fault
  pub no_record : answer.records ≡ []

-- the answer where the certificate of a day that was read is to be checked
abbrev pub IsOfCert : Change FilesSeen → Parts → List ℕ → List ℕ → View → Printed → Type 0
IsOfCert files parts digest cert view answer =
    TellsClaim files.before.held parts digest cert view answer
    ⊎ (TellsFault files.before.held parts digest cert answer
    ⊎ (IsTooMany most_cert_bytes files.before.held cert answer ⊎ IsFailed files cert answer))

-- the first name holds a day, and the answer is that to the certificate of the second
pub record IsDayChecked (files : Change FilesSeen) (name cert : List ℕ) (view : View)
    (answer : Printed) : Type 0 where
  pub parts : Parts
  pub day : IsDayOf files.before.held name parts
  pub of_cert : IsOfCert files parts (sha256 day.bytes) cert view answer

-- the answer where the certificate of the second name is to be checked by the day of the first
abbrev pub IsOfCheck : Change FilesSeen → List ℕ → List ℕ → View → Printed → Type 0
IsOfCheck files name cert view answer =
    IsDayChecked files name cert view answer ⊎ IsWithoutDay files name answer
