-- A day of so many flights that a rule makes up: its names, and where each flight goes, and when.
use Rattle.std.specs.Prelude.{ℕ, ◌+◌, ◌*◌, ◌/◌, ◌%◌, ◌==◌, List, ◌++◌, codes, if◌then◌else◌}
use Rattle.std.specs.Fmt.{decimal}
use Rattle.scenario_maker.specs.declared.courses.Course.{Course}

-- the names of airports, sectors and flights
abbrev pub airport_id : ℕ → List ℕ
airport_id k = codes "P" ++ decimal k

abbrev pub sector_id : ℕ → List ℕ
sector_id k = codes "Z" ++ decimal k

abbrev pub flight_id : ℕ → List ℕ
flight_id i = codes "F" ++ decimal i

-- Flights come in threes: one alone, one out, and one back with its aircraft.
abbrev pub course_from : ℕ → ℕ → ℕ → Course
course_from three airport departs = record {
  from = airport;
  to = (airport + 1 + three % 5) % 6;
  departs = departs;
}

abbrev pub course_alone : ℕ → Course
course_alone three = course_from three (three % 6) (7 * three % 60)

abbrev pub course_out : ℕ → Course
course_out three = course_from three ((three + 2) % 6) ((7 * three + 3) % 60)

abbrev pub course_back : Course → Course
course_back out = record { from = out.to; to = out.from; departs = out.departs + 7 }

abbrev pub course_by : ℕ → ℕ → Course
course_by place three =
    if place == 0 then course_alone three
    else if place == 1 then course_out three
    else course_back (course_out three)

-- the course of the flight of this number
abbrev pub course_of : ℕ → Course
course_of i = course_by (i % 3) (i / 3)

-- the sectors that it enters, the third only on another way
abbrev pub first_sector : ℕ → ℕ
first_sector i = ((course_of i).from + 2 * (course_of i).to + i) % 10

abbrev pub second_sector : ℕ → ℕ
second_sector i = (first_sector i + 1 + i % 4) % 10

abbrev pub third_sector : ℕ → ℕ
third_sector i = (first_sector i + 5 + i % 4) % 10
