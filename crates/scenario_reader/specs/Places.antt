-- The records `day`, `airport` and `sector`.
use Rattle.std.specs.Prelude.{ℕ, List, [], Result, Ok, replicate}
use Rattle.flow_types.specs.declared.day.Day.{Day}
use Rattle.flow_types.specs.declared.place.Place.{Place}
use Rattle.flow_types.specs.declared.place.PlaceKind.TheVariants.{Airport, Sector}
use Rattle.text_records.specs.Fields.{ends_after, field_in, number_in}
use Rattle.text_records.specs.Errors.{◌>>=◌}
use Rattle.text_records.specs.Rows.{Fields}
use Rattle.text_records.specs.declared.error.FieldFault.{FieldFault}
use Rattle.scenario_reader.specs.Dates.{moment_of}
use Rattle.text_records.specs.Names.{new_name}
use Rattle.flow_types.specs.Limits.{most_capacity, most_minutes, most_periods, most_places}

-- day, date and time, minutes a period, periods
unfoldable pub day_of : Fields → Result Day FieldFault
day_of fields = do
  text ← field_in fields 2
  moment ← moment_of text
  minutes ← number_in fields 3 1 most_minutes
  periods ← number_in fields 4 1 most_periods
  ended ← ends_after fields 4
  Ok (record {
    year = moment.year;
    month = moment.month;
    day = moment.day;
    hour = moment.hour;
    minute = moment.minute;
    minutes = minutes;
    periods = periods;
  })

-- airport, name, departures, arrivals: a new name, and capacities of every period
unfoldable pub airport_of : ℕ → List (List ℕ) → Fields → Result Place FieldFault
airport_of periods names fields = do
  name ← new_name most_places names fields
  departures ← number_in fields 3 0 most_capacity
  arrivals ← number_in fields 4 0 most_capacity
  ended ← ends_after fields 4
  Ok (record {
    name = name;
    kind = Airport;
    first = replicate periods departures;
    second = replicate periods arrivals;
  })

-- sector, name, capacity: the same
unfoldable pub sector_of : ℕ → List (List ℕ) → Fields → Result Place FieldFault
sector_of periods names fields = do
  name ← new_name most_places names fields
  capacity ← number_in fields 3 0 most_capacity
  ended ← ends_after fields 3
  Ok (record { name = name; kind = Sector; first = replicate periods capacity; second = [] })
