-- The calendar: the date and the time of a number of seconds since 1980 began, and the two words that an entry holds of them.
use Rattle.std.specs.Prelude.{ℕ, zero, suc, ◌+◌, ◌-◌, ◌*◌, ◌/◌, ◌%◌, ◌<◌, ◌≡◌, [], ◌∷◌, Bool, ◌&&◌, not, ltb, eqb}
use Rattle.model.specs.Bytes.{pick}
use Rattle.model.specs.Scan.{any}
use Rattle.model.specs.declared.Elapsed.{Elapsed}

-- Every fourth year is a leap year, from 1980 on, but "the year 2100 has no leap day".
unfoldable pub is_leap : ℕ → Bool
is_leap y = eqb (y % 4) 0 && not (eqb y 2100)

-- The days of a year, and of a month, the first being 1.
unfoldable pub year_days : ℕ → ℕ
year_days y = pick (is_leap y) 366 365

unfoldable pub month_days : ℕ → ℕ → ℕ
month_days y m =
    pick (eqb m 2) (pick (is_leap y) 29 28) (pick (any (eqb m 4 ∷ eqb m 6 ∷ eqb m 9 ∷ eqb m 11 ∷ [])) 30 31)

-- d days counted off in units of these lengths, from unit i on, n units at most: the unit that is reached, and the days of it that have elapsed.
unfoldable pub count_off : (ℕ → ℕ) → ℕ → ℕ → ℕ → Elapsed
count_off days zero i d = record { unit = i; days = d }
count_off days (suc n) i d =
    let later = count_off days n (i + 1) (d - days i) in
    pick (ltb d (days i)) (record { unit = i; days = d }) later

-- The year that d days since 1980 began reach, of the 128 that a date can hold; the month that d days of a year reach.
abbrev pub year_of : ℕ → Elapsed
year_of d = count_off year_days 128 1980 d

abbrev pub month_of : ℕ → ℕ → Elapsed
month_of y d = count_off (month_days y) 12 1 d

-- A second of a day.
pub record Moment : Type 0 where
  pub year : ℕ
  pub month : ℕ
  pub day : ℕ
  pub hour : ℕ
  pub minute : ℕ
  pub second : ℕ

abbrev pub moment_at : ℕ → ℕ → ℕ → ℕ → ℕ → ℕ → Moment
moment_at year month day hour minute second =
    record { year = year; month = month; day = day; hour = hour; minute = minute; second = second }

-- "the seconds since 1980 began": the moment that they reach.
unfoldable pub moment : ℕ → Moment
moment s =
    let y = year_of (s / 86400) in
    let m = month_of y.unit y.days in
    moment_at y.unit m.unit (m.days + 1) (s % 86400 / 3600) (s % 3600 / 60) (s % 60)

-- The words of the FAT paper: day in bits 0 to 4, month in 5 to 8, years since 1980 in 9 to 15; and "seconds are halved, rounding down" in
-- bits 0 to 4, minutes in 5 to 10, hours in 11 to 15.
abbrev pub date_word : Moment → ℕ
date_word t = (t.year - 1980) * 512 + t.month * 32 + t.day

abbrev pub time_word : Moment → ℕ
time_word t = t.hour * 2048 + t.minute * 32 + t.second / 2

-- A stamp is both, side by side as in an entry: the time in its low two bytes, the date in its high two.
unfoldable pub stamp_of : ℕ → ℕ
stamp_of s = time_word (moment s) + 65536 * date_word (moment s)

abbrev pub stamp_time : ℕ → ℕ
stamp_time st = st % 65536

abbrev pub stamp_date : ℕ → ℕ
stamp_date st = st / 65536

-- "18 CLOCK, the seconds exceed 4,039,286,399": the last second of 2107.
abbrev pub last_second : ℕ
last_second = 4039286399

-- ---- what a reader checks of it

-- The day after a day, at midnight: the next of its month, or the first of the next month, or of the next year.
unfoldable pub next_day : ℕ → ℕ → ℕ → Moment
next_day y m d =
    pick (ltb d (month_days y m)) (moment_at y m (d + 1) 0 0 0)
    (pick (ltb m 12) (moment_at y (m + 1) 1 0 0 0) (moment_at (y + 1) 1 1 0 0 0))

-- One second later.
unfoldable pub tick : Moment → Moment
tick t =
    pick (ltb t.second 59) (moment_at t.year t.month t.day t.hour t.minute (t.second + 1))
    (pick (ltb t.minute 59) (moment_at t.year t.month t.day t.hour (t.minute + 1) 0)
    (pick (ltb t.hour 23) (moment_at t.year t.month t.day (t.hour + 1) 0 0) (next_day t.year t.month t.day)))

-- The seconds run through the calendar one by one, from the first of 1980 to the last of 2107.
pub record Calendar : Type 0 where
  pub begins : moment 0 ≡ moment_at 1980 1 1 0 0 0
  pub ticks : (s : ℕ) → s < last_second → moment (s + 1) ≡ tick (moment s)
  pub ends : moment last_second ≡ moment_at 2107 12 31 23 59 59
