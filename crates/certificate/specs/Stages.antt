-- The grammar of a certificate: which lines may stand next, and what may stand after them.
use Rattle.std.specs.Prelude.{ℕ, zero, suc, ◌+◌, ◌-◌, ◌^◌, ◌<◌, Bool, true, false, ◌||◌, length, nat_lt, Option, None, Some, Result, Ok, Err, if◌then◌else◌, ℤ}
use Rattle.flow_types.specs.declared.parts.Parts.{Parts}
use Rattle.bytime_model.specs.declared.names.RowName.{RowName}
use Rattle.bytime_model.specs.Order.{is_before}
use Rattle.cut_rows.specs.declared.names.CutName.{CutName}
use Rattle.cut_rows.specs.Cuts.{is_cut as is_cut_of}
use Rattle.cut_rows.specs.Order.{follows_last}
use Rattle.certificate.specs.declared.fault.LineFault.{LineFault}
use Rattle.certificate.specs.declared.fault.TextCause.TheVariants.{BadCut, BadKind, Order}
use Rattle.certificate.specs.declared.item.CertItem.{CertItem}
use Rattle.certificate.specs.declared.item.CertItem.TheVariants as item
use Rattle.certificate.specs.declared.kind.LineKind.{LineKind}
use Rattle.certificate.specs.declared.kind.LineKind.TheVariants as kind
use Rattle.certificate.specs.declared.stage.Stage.{Stage}
use Rattle.certificate.specs.declared.stage.Stage.TheVariants as stage

-- a line that a tree is made of
abbrev pub is_node : LineKind → Bool
is_node kind.Split = true
is_node kind.Empty = true
is_node kind.Unit = true
is_node kind.Dual = true
is_node kind.Lag = true
is_node other = false

abbrev pub is_cut : LineKind → Bool
is_cut kind.Cut = true
is_cut other = false

abbrev pub may_stand : Stage → LineKind → Bool
may_stand stage.Head kind.Head = true
may_stand (stage.Pool last) kind = is_cut kind || is_node kind
may_stand (stage.Tree waiting) kind = is_node kind
may_stand (stage.Rows left last waiting) kind.Row = true
may_stand stage.Plan kind.Plan = true
may_stand (stage.Trips next) kind.Trip = true
may_stand stage.Bound kind.Bound = true
may_stand stage.End kind.End = true
may_stand other kind = false

abbrev pub is_ended : Stage → Bool
is_ended stage.Ended = true
is_ended other = false

-- how many trees wait: at the start of the tree one, later the late sides of splits too, and while
-- rows are read those that wait after their leaf
abbrev pub waiting_at : Stage → ℕ
waiting_at (stage.Pool last) = 1
waiting_at (stage.Tree waiting) = waiting
waiting_at (stage.Rows left last waiting) = waiting
waiting_at other = 0

-- the flight whose trip comes next
abbrev pub next_at : Stage → ℕ
next_at (stage.Trips next) = next
next_at other = 0

-- where so many trees wait still
abbrev pub trees_left : ℕ → Stage
trees_left zero = stage.Plan
trees_left (suc more) = stage.Tree (suc more)

-- where so many rows of a leaf are left, after this last one
abbrev pub rows_left : ℕ → Option RowName → ℕ → Stage
rows_left zero last waiting = trees_left waiting
rows_left (suc left) last waiting = stage.Rows (suc left) last waiting

-- where the trips of the flights from this one on are left
abbrev pub trips_left : Parts → ℕ → Stage
trips_left parts next =
    if nat_lt next (length parts.flights) then stage.Trips next else stage.Bound

abbrev pub after_cost : Parts → Option ℤ → Stage
after_cost parts None = stage.Bound
after_cost parts (Some cost) = trips_left parts 0

abbrev pub bad_kind : LineFault
bad_kind = record { field = 1; cause = BadKind }

abbrev pub is_above : Option RowName → RowName → Bool
is_above None name = true
is_above (Some last) name = is_before last name

-- each row of a leaf is above the one before it
abbrev pub after_row : ℕ → Option RowName → ℕ → RowName → Result Stage LineFault
after_row left last waiting name =
    if is_above last name then Ok (rows_left (left - 1) (Some name) waiting)
    else Err (record { field = 2; cause = Order })

abbrev pub row_at : Stage → RowName → Result Stage LineFault
row_at (stage.Rows left last waiting) name = after_row left last waiting name
row_at other name = Err bad_kind

-- each cut comes after the one before it, and is one of the scenario
abbrev pub after_cut : Parts → Option CutName → CutName → Result Stage LineFault
after_cut parts last cut =
    if follows_last last cut then (if is_cut_of parts cut then Ok (stage.Pool (Some cut))
    else Err (record { field = 2; cause = BadCut }))
    else Err (record { field = 2; cause = Order })

abbrev pub cut_at : Parts → Stage → CutName → Result Stage LineFault
cut_at parts (stage.Pool last) cut = after_cut parts last cut
cut_at parts other cut = Err bad_kind

abbrev pub stage_after : Parts → Stage → CertItem → Result Stage LineFault
stage_after parts now (item.Head digest) = Ok (stage.Pool None)
stage_after parts now (item.Cut cut) = cut_at parts now cut
stage_after parts now (item.Split flight node time cutoff) =
    Ok (stage.Tree (waiting_at now + 1))
stage_after parts now item.Empty = Ok (trees_left (waiting_at now - 1))
stage_after parts now item.Unit = Ok (trees_left (waiting_at now - 1))
stage_after parts now (item.Dual weight rows) = Ok (rows_left rows None (waiting_at now - 1))
stage_after parts now (item.Lag weight rows) = Ok (rows_left rows None (waiting_at now - 1))
stage_after parts now (item.Row multiplier) = row_at now multiplier.row
stage_after parts now (item.Plan cost) = Ok (after_cost parts cost)
stage_after parts now (item.Trip trip) = Ok (trips_left parts (next_at now + 1))
stage_after parts now (item.Bound bound) = Ok stage.End
stage_after parts now (item.End nodes) = Ok stage.Ended

-- not too far on for a line more
pub record IsSmall (now : Stage) : Type 0 where
  pub waiting : waiting_at now < 2 ^ 62
  pub next : next_at now < 2 ^ 31
