-- Moments and stamps by computation. The numbers are worked out by hand. The edits in must-fail are refused here.
use Prim.Native.Nat.{ℕ, ◌+◌, ◌*◌}
use mathlib.Core.Path.{◌≡◌, refl}
use mathlib.Core.List.{List, [], ◌∷◌, map}
use mathlib.Core.Bool.{true, false}
use Rattle.model.specs.Scan.{any, walk, indices_from, range}
use Rattle.model.specs.Calendar.{is_leap, year_days, month_days, count_off, moment_at, moment, stamp_of, stamp_time, stamp_date, last_second}

-- All definitions that a row computes.
unfoldable compute : Unit {0}
unfolding is_leap year_days month_days count_off moment stamp_of any walk indices_from
compute = tt

leap_row : map is_leap (1980 ∷ 1981 ∷ 1982 ∷ 1983 ∷ 1984 ∷ 2000 ∷ 2096 ∷ 2099 ∷ 2100 ∷ 2101 ∷ 2104 ∷ 2107 ∷ [])
    ≡ true ∷ false ∷ false ∷ false ∷ true ∷ true ∷ true ∷ false ∷ false ∷ false ∷ true ∷ false ∷ []
unfolding compute
leap_row = refl

lengths_row : (map (month_days 2000) (range 1 12) ≡ 31 ∷ 29 ∷ 31 ∷ 30 ∷ 31 ∷ 30 ∷ 31 ∷ 31 ∷ 30 ∷ 31 ∷ 30 ∷ 31 ∷ [])
    × (map (month_days 2100) (range 1 12) ≡ 31 ∷ 28 ∷ 31 ∷ 30 ∷ 31 ∷ 30 ∷ 31 ∷ 31 ∷ 30 ∷ 31 ∷ 30 ∷ 31 ∷ [])
unfolding compute
lengths_row = (refl, refl)

-- The first second and the one after it, the last of a minute, of an hour and of a day, and the first of the next day.
abbrev first_day : List ℕ
first_day = 0 ∷ 1 ∷ 59 ∷ 3599 ∷ 86399 ∷ 86400 ∷ []

first_moments : map moment first_day
    ≡ moment_at 1980 1 1 0 0 0 ∷ moment_at 1980 1 1 0 0 1 ∷ moment_at 1980 1 1 0 0 59 ∷ moment_at 1980 1 1 0 59 59 ∷ moment_at 1980 1 1 23 59 59
    ∷ moment_at 1980 1 2 0 0 0 ∷ []
unfolding compute
first_moments = refl

-- The words of a stamp, the time's and the date's: 59 * 32 + 29, 23 * 2048 + 59 * 32 + 29; 1 * 32 + 1, 1 * 32 + 2.
abbrev words : ℕ → ℕ × ℕ
words s = (stamp_time (stamp_of s), stamp_date (stamp_of s))

first_words : map words first_day ≡ (0, 33) ∷ (0, 33) ∷ (29, 33) ∷ (1917, 33) ∷ (49021, 33) ∷ (0, 34) ∷ []
unfolding compute
first_words = refl

-- A time of day, d days after the first.
abbrev after : ℕ → ℕ → ℕ → ℕ → ℕ
after d hour minute second = d * 86400 + hour * 3600 + minute * 60 + second

-- Around leap days. From 1 January 1980 to that of 2000 it is 20 * 365 + 5 days, 7,305, and to 29 February 59 more; to that of 2100, in which
-- no leap day follows, 120 * 365 + 30, 43,830, and to 1 March 59 more; to 29 February 2104 it is 124 * 365 + 30 + 59.
abbrev leap_days : List ℕ
leap_days =
    after 59 12 0 0 ∷ after 7363 23 59 59 ∷ after 7364 0 0 0 ∷ after 7364 23 59 59 ∷ after 7365 0 0 0 ∷ after 43829 23 59 59 ∷ after 43830 0 0 0
    ∷ after 43888 23 59 59 ∷ after 43889 0 0 0 ∷ after 45349 6 30 10 ∷ after 45349 23 59 59 ∷ after 45350 0 0 0 ∷ last_second ∷ []

leap_moments : map moment leap_days
    ≡ moment_at 1980 2 29 12 0 0 ∷ moment_at 2000 2 28 23 59 59 ∷ moment_at 2000 2 29 0 0 0 ∷ moment_at 2000 2 29 23 59 59 ∷ moment_at 2000 3 1 0 0 0
    ∷ moment_at 2099 12 31 23 59 59 ∷ moment_at 2100 1 1 0 0 0 ∷ moment_at 2100 2 28 23 59 59 ∷ moment_at 2100 3 1 0 0 0
    ∷ moment_at 2104 2 29 6 30 10 ∷ moment_at 2104 2 29 23 59 59 ∷ moment_at 2104 3 1 0 0 0 ∷ moment_at 2107 12 31 23 59 59 ∷ []
unfolding compute
leap_moments = refl

-- 2000 is 20 * 512, 2099 is 119 * 512, 2100 is 120 * 512, 2104 is 124 * 512, 2107 is 127 * 512.
leap_words : map words leap_days
    ≡ (24576, 93) ∷ (49021, 10332) ∷ (0, 10333) ∷ (49021, 10333) ∷ (0, 10337) ∷ (49021, 61343) ∷ (0, 61473) ∷ (49021, 61532) ∷ (0, 61537)
    ∷ (13253, 63581) ∷ (49021, 63581) ∷ (0, 63585) ∷ (49021, 65439) ∷ []
unfolding compute
leap_words = refl

-- Seconds are halved, rounding down: 13:37:54 to 13:37:59, 13 * 2048 + 37 * 32 = 27808 and 27, 27, 28, 28, 29, 29.
halves_row : map words (range (after 0 13 37 54) 6) ≡ (27835, 33) ∷ (27835, 33) ∷ (27836, 33) ∷ (27836, 33) ∷ (27837, 33) ∷ (27837, 33) ∷ []
unfolding compute
halves_row = refl

-- Whole stamps: 33 * 65536, and 49021 + 65439 * 65536.
stamps_row : map stamp_of (0 ∷ last_second ∷ []) ≡ 2162688 ∷ 4288659325 ∷ []
unfolding compute
stamps_row = refl
