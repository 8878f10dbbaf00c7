-- What is read is within the limits of a check: an item, and the rows of a leaf.
use Rattle.std.proofs.Common.{◌-◌, ◌^◌, ◌<◌, ◌++◌, ◌∷◌, [], arith, length-append}
use Rattle.std.proofs.lemmas.List.Elements.{All-push}
use Rattle.bytime_model.specs.declared.multiplier.Multiplier.{Multiplier}
use Rattle.cert_checker.specs.declared.progress.LeafDraft.{LeafDraft}
use Rattle.certificate.specs.declared.item.CertItem.{CertItem}
use Rattle.certificate.specs.declared.item.CertItem.TheVariants as item
use Rattle.certificate.proofs.RangeFacts.{IsRanged}
use Rattle.cert_checker.specs.Checks.{IsFitDraft, IsFitItem, IsOpenDraft}

-- with a row more
pub row_fits : (draft : LeafDraft) (multiplier : Multiplier) → IsOpenDraft draft
    → multiplier.value < 2 ^ 62 → IsFitDraft (record {
      kind = draft.kind;
      weight = draft.weight;
      left = draft.left - 1;
      rows = draft.rows ++ multiplier ∷ [];
    })
row_fits draft multiplier is value =
    let fit = is.fit in
    let few = fit.few in
    let some = is.some in
    record {
      weight_to = fit.weight_to;
      values = All-push (λ m. m.value < 2 ^ 62) draft.rows multiplier fit.values value;
      few = omega (arith, few, some, length-append draft.rows (multiplier ∷ []));
    }

pub item_fits : (it : CertItem) → IsRanged it → IsFitItem it
item_fits (item.Head digest) is = tt
item_fits (item.Cut cut) is = tt
item_fits (item.Split flight node time cutoff) is = tt
item_fits item.Empty is = tt
item_fits item.Unit is = tt
item_fits (item.Dual weight rows) (weight_to, rows_to) = (omega (arith, weight_to), rows_to)
item_fits (item.Lag weight rows) (weight_to, rows_to) = (omega (arith, weight_to), rows_to)
item_fits (item.Row multiplier) is = omega (arith, is)
item_fits (item.Plan cost) is = tt
item_fits (item.Trip trip) is = tt
item_fits (item.Bound bound) is = tt
item_fits (item.End nodes) is = tt
