-- Laws of the calendar: days counted off in years and months, that the seconds run through it one by one, and how large its words are.
use Prim.Native.Nat.{ℕ, zero, suc, ◌+◌, ◌-◌, ◌*◌, ◌/◌, ◌%◌, ◌^◌, ◌<◌, ◌≤◌}
use native.Mathlib.Nat.{add-zero}
use native.Mathlib.Omega.{arith}
use mathlib.Core.Path.{◌≡◌, refl, sym, ap, ◌∙◌}
use mathlib.Core.Logic.{⊎_elim}
use lib.Dec.{ltb, eqb}
use borrow.Author.Tests.{lt-ltb, le-ltb}
use Rattle.model.specs.Bytes.{pick}
use Rattle.model.specs.Scan.{any}
use Rattle.model.specs.Calendar.{is_leap, year_days, month_days, count_off, year_of, month_of, Moment, moment_at, moment, date_word, time_word}
use Rattle.model.specs.Calendar.{stamp_of, stamp_time, stamp_date, last_second, next_day, tick, Calendar}
use Rattle.model.specs.declared.Elapsed.{Elapsed}
use Rattle.model.proofs.Tests.{told, less?, by_pick}

-- ---- days counted off in units of any lengths

module _ (days : ℕ → ℕ) where
  -- The days of the n units from i on.
  unfoldable pub total : ℕ → ℕ → ℕ
  total zero i = 0
  total (suc n) i = days i + total n (i + 1)

  -- One step: the days end in the first unit, or go on after it.
  here : (n i d : ℕ) → d < days i → count_off days (suc n) i d ≡ record { unit = i; days = d }
  unfolding count_off
  here n i d h = rw (lt-ltb d (days i) h)

  later : (n i d : ℕ) → days i ≤ d → count_off days (suc n) i d ≡ count_off days n (i + 1) (d - days i)
  unfolding count_off
  later n i d h = rw (le-ltb d (days i) h)

  count_none : (i d : ℕ) → count_off days zero i d ≡ record { unit = i; days = d }
  unfolding count_off
  count_none i d = refl

  pub count_here : (n i d : ℕ) → 0 < n → d < days i → count_off days n i d ≡ record { unit = i; days = d }
  count_here zero i d some h = absurd (omega arith)
  count_here (suc n) i d some h = here n i d h

  pub count_later : (n i d : ℕ) → 0 < n → days i ≤ d → count_off days n i d ≡ count_off days (n - 1) (i + 1) (d - days i)
  count_later zero i d some h = absurd (omega arith)
  count_later (suc n) i d some h = let z : suc n - 1 ≡ n = omega arith in rw z (later n i d h)

  -- Where the n units have more days than those, one of them is reached, and not all its days have elapsed.
  abbrev pub Reached : ℕ → ℕ → Elapsed → Type 0
  Reached n i e = (i ≤ e.unit) × (e.unit < i + n) × (e.days < days e.unit)

  pub count_reached : (n i d : ℕ) → d < total n i → Reached n i (count_off days n i d)
  unfolding total
  count_reached zero i d h = absurd (omega arith)
  count_reached (suc n) i d h =
      ⊎_elim
      (λ less. rw (here n i d less) (omega arith, omega arith, less))
      (λ more.
      let fewer : d - days i < total n (i + 1) = omega arith in
      rw (later n i d more) (before (count_off days n (i + 1) (d - days i)) (count_reached n (i + 1) (d - days i) fewer)))
      (less? d (days i))
    where
      before : (e : Elapsed) → Reached n (i + 1) e → Reached (suc n) i e
      before e r = (omega (arith, r.0), omega (arith, r.1), r.2)

  -- One day more: the next of the unit that is reached, or the first of the unit after it.
  unfoldable pub day_after : Elapsed → Elapsed
  day_after e = pick (ltb (e.days + 1) (days e.unit)) (record { unit = e.unit; days = e.days + 1 }) (record { unit = e.unit + 1; days = 0 })

  pub count_next : ((k : ℕ) → 0 < days k) → (n i d : ℕ) → d + 1 < total n i → count_off days n i (d + 1) ≡ day_after (count_off days n i d)
  unfolding total day_after
  count_next some zero i d h = absurd (omega arith)
  count_next some (suc n) i d h =
      ⊎_elim
      (λ less.
      let z : d < days i = omega arith in
      rw (here n i (d + 1) less, here n i d z, lt-ltb (d + 1) (days i) less))
      (λ full.
      ⊎_elim
      (λ last.
      let z : d + 1 - days i ≡ 0 = omega arith in
      let more : 0 < n = rest n (omega arith) in
      rw (later n i (d + 1) full, here n i d last, z, count_here n (i + 1) 0 more (some (i + 1)), le-ltb (d + 1) (days i) full))
      (λ more.
      let z : d + 1 - days i ≡ d - days i + 1 = omega arith in
      let fewer : d - days i + 1 < total n (i + 1) = omega arith in
      rw (later n i (d + 1) full, later n i d more, z) (count_next some n (i + 1) (d - days i) fewer))
      (less? d (days i)))
      (less? (d + 1) (days i))
    where
      rest : (m : ℕ) → 0 < total m (i + 1) → 0 < m
      rest zero h = h
      rest (suc m) h = omega arith

  -- The last of all their days is that of the last unit.
  pub count_last : ((k : ℕ) → 0 < days k) → (n i d : ℕ) → d + 1 ≡ total (suc n) i
      → count_off days (suc n) i d ≡ record { unit = i + n; days = days (i + n) - 1 }
  unfolding total
  count_last some zero i d h =
      let z : d ≡ days i - 1 = omega arith in
      rw (here zero i d (omega arith), add-zero i, z)
  count_last some (suc n) i d h =
      let more : days i ≤ d = omega (arith, some (i + 1)) in
      let last : d - days i + 1 ≡ total (suc n) (i + 1) = omega (arith, some (i + 1)) in
      let z : i + suc n ≡ i + 1 + n = omega arith in
      rw (later (suc n) i d more, z) (count_last some n (i + 1) (d - days i) last)

-- ---- a loop that counts off d days in the n units from i on: what it has left, from unit j on

pub record Counts (days : ℕ → ℕ) (n i d j left : ℕ) : Type 0 where
  pub low : i ≤ j
  pub high : j ≤ i + n
  pub same : count_off days n i d ≡ count_off days (i + n - j) j left

module _ {days : ℕ → ℕ} {n i d : ℕ} where
  pub counts_start : Counts days n i d i d
  counts_start = record { low = omega arith; high = omega arith; same = ap (λ (z : ℕ). count_off days z i d) (omega arith) }

  module _ {j left : ℕ} (so : Counts days n i d j left) where
    -- The unit that is at hand has no more days than are left, or more, and then it is the one; or there is none at hand.
    pub counts_on : {long : ℕ} → j < i + n → long ≡ days j → long ≤ left → Counts days n i d (j + 1) (left - long)
    counts_on below is more =
        let z : i + n - j - 1 ≡ i + n - (j + 1) = omega arith in
        record {
          low = omega (arith, so.low);
          high = omega arith;
          same = so.same ∙ rw (z, ← is) at (count_later days (i + n - j) j left (omega arith) (omega arith));
        }

    pub counts_here : {long : ℕ} → j < i + n → long ≡ days j → left < long → record { unit = j; days = left } ≡ count_off days n i d
    counts_here below is less = sym (so.same ∙ count_here days (i + n - j) j left (omega arith) (omega arith))

    pub counts_end : i + n ≤ j → record { unit = j; days = left } ≡ count_off days n i d
    counts_end past = let z : i + n - j ≡ 0 = omega arith in sym (so.same ∙ rw z (count_none days j left))

-- ---- the years and the months

-- A year has 365 or 366 days, a month 28 to 31.
abbrev In : ℕ → ℕ → ℕ → Type 0
In low high n = (low ≤ n) × (n ≤ high)

pub year_long : (y : ℕ) → (365 ≤ year_days y) × (year_days y ≤ 366)
unfolding year_days
year_long y = by_pick (In 365 366) (is_leap y) _ _ (λ leap. omega arith) (λ common. omega arith)

pub month_long : (y m : ℕ) → (28 ≤ month_days y m) × (month_days y m ≤ 31)
unfolding month_days
month_long y m =
    by_pick (In 28 31) (eqb m 2) _ _ (λ february. by_pick (In 28 31) (is_leap y) _ _ (λ leap. omega arith) (λ common. omega arith))
    (λ other. by_pick (In 28 31) (any _) _ _ (λ short. omega arith) (λ long. omega arith))

year_some : (y : ℕ) → 0 < year_days y
year_some y = omega (arith, (year_long y).0)

month_some : (y m : ℕ) → 0 < month_days y m
month_some y m = omega (arith, (month_long y m).0)

-- The 128 years have so many days; the twelve months of a year have its days, and the last of these is the 31st of the twelfth.
years_total : total year_days 128 1980 ≡ 46751
unfolding total year_days is_leap
years_total = refl

months_total : (y : ℕ) → total (month_days y) 12 1 ≡ year_days y
unfolding total year_days month_days any
months_total y = ⊎_elim (λ leap. rw leap) (λ common. rw common) (told (is_leap y))

december : (y : ℕ) → month_days y 12 ≡ 31
unfolding month_days any
december y = refl

year_ends : (y d : ℕ) → d + 1 ≡ year_days y → month_of y d ≡ record { unit = 12; days = 30 }
year_ends y d h = rw (december y) at (count_last (month_days y) (month_some y) 11 1 d (h ∙ sym (months_total y)))

-- The year that is reached and the month: each is one of those, and not all its days have elapsed.
pub year_reached : (d : ℕ) → d < 46751 → Reached year_days 128 1980 (year_of d)
year_reached d h = count_reached year_days 128 1980 d (omega (arith, years_total))

pub month_reached : (y d : ℕ) → d < year_days y → Reached (month_days y) 12 1 (month_of y d)
month_reached y d h = count_reached (month_days y) 12 1 d (omega (arith, months_total y))

year_next : (d : ℕ) → d + 1 < 46751 → year_of (d + 1) ≡ day_after year_days (year_of d)
year_next d h = count_next year_days year_some 128 1980 d (omega (arith, years_total))

month_next : (y d : ℕ) → d + 1 < year_days y → month_of y (d + 1) ≡ day_after (month_days y) (month_of y d)
month_next y d h = count_next (month_days y) (month_some y) 12 1 d (omega (arith, months_total y))

-- ---- one second later

-- A time of day, d days after the first.
abbrev time_on : ℕ → ℕ → ℕ → ℕ → Moment
time_on d hour minute second =
    let y = year_of d in
    let m = month_of y.unit y.days in
    moment_at y.unit m.unit (m.days + 1) hour minute second

-- The day after a day, from the year and the month that are reached with it and with one day more.
date_next : (d : ℕ) → d + 1 < 46751
    → time_on (d + 1) 0 0 0 ≡ next_day (year_of d).unit (month_of (year_of d).unit (year_of d).days).unit
    ((month_of (year_of d).unit (year_of d).days).days + 1)
unfolding next_day day_after
date_next d h = go (year_of d) (year_of (d + 1)) (year_reached d (omega arith)) (year_next d h)
  where
    -- within a month, or at its end
    within : (y : ℕ) (m n : Elapsed) → n ≡ day_after (month_days y) m → n.unit < 13
        → moment_at y n.unit (n.days + 1) 0 0 0 ≡ next_day y m.unit (m.days + 1)
    within y m n next few =
        ⊎_elim
        (λ less. rw (next, lt-ltb (m.days + 1) (month_days y m.unit) less))
        (λ full.
        let z = le-ltb (m.days + 1) (month_days y m.unit) full in
        let same : n ≡ record { unit = m.unit + 1; days = 0 } = rw z at next in
        let low : m.unit < 12 = omega (arith, rw same at few) in
        rw (same, z, lt-ltb m.unit 12 low))
        (less? (m.days + 1) (month_days y m.unit))

    go : (e f : Elapsed) → Reached year_days 128 1980 e → f ≡ day_after year_days e
        → moment_at f.unit (month_of f.unit f.days).unit ((month_of f.unit f.days).days + 1) 0 0 0
        ≡ next_day e.unit (month_of e.unit e.days).unit ((month_of e.unit e.days).days + 1)
    go e f r next =
        ⊎_elim
        (λ less.
        let same : f ≡ record { unit = e.unit; days = e.days + 1 } = rw (lt-ltb (e.days + 1) (year_days e.unit) less) at next in
        rw same
        (within e.unit (month_of e.unit e.days) (month_of e.unit (e.days + 1)) (month_next e.unit e.days less)
        (month_reached e.unit (e.days + 1) less).1))
        (λ full.
        let same : f ≡ record { unit = e.unit + 1; days = 0 } = rw (le-ltb (e.days + 1) (year_days e.unit) full) at next in
        let last : e.days + 1 ≡ year_days e.unit = omega (arith, r.2) in
        let first = count_here (month_days (e.unit + 1)) 12 1 0 (omega arith) (month_some (e.unit + 1) 1) in
        rw (same, first, year_ends e.unit e.days last, december e.unit))
        (less? (e.days + 1) (year_days e.unit))

-- A number of seconds is so many days, hours, minutes and seconds, and these tell the moment.
parts : (s : ℕ) → s ≡ s / 86400 * 86400 + s % 86400 / 3600 * 3600 + s % 3600 / 60 * 60 + s % 60
parts s = omega arith

time_at : (s d hour minute second : ℕ) → s ≡ d * 86400 + hour * 3600 + minute * 60 + second → hour < 24 → minute < 60 → second < 60
    → moment s ≡ time_on d hour minute second
unfolding moment
time_at s d hour minute second are hours minutes seconds =
    let a : s / 86400 ≡ d = omega arith in
    let b : s % 86400 / 3600 ≡ hour = omega arith in
    let c : s % 3600 / 60 ≡ minute = omega arith in
    let e : s % 60 ≡ second = omega arith in
    rw (a, b, c, e)

ticks : (s : ℕ) → s < last_second → moment (s + 1) ≡ tick (moment s)
unfolding moment tick
ticks s h = go (s / 86400) (s % 86400 / 3600) (s % 3600 / 60) (s % 60) (parts s) (omega arith) (omega arith) (omega arith)
  where
    go : (d hour minute second : ℕ) → s ≡ d * 86400 + hour * 3600 + minute * 60 + second → hour < 24 → minute < 60 → second < 60
        → moment (s + 1) ≡ tick (time_on d hour minute second)
    go d hour minute second are hours minutes seconds =
        ⊎_elim
        (λ less. rw (lt-ltb second 59 less) (time_at (s + 1) d hour minute (second + 1) (omega arith) hours minutes (omega arith)))
        (λ full.
        ⊎_elim
        (λ less.
        rw (le-ltb second 59 full, lt-ltb minute 59 less)
        (time_at (s + 1) d hour (minute + 1) 0 (omega arith) hours (omega arith) (omega arith)))
        (λ over.
        ⊎_elim
        (λ less.
        rw (le-ltb second 59 full, le-ltb minute 59 over, lt-ltb hour 23 less)
        (time_at (s + 1) d (hour + 1) 0 0 (omega arith) (omega arith) (omega arith) (omega arith)))
        (λ late.
        rw (le-ltb second 59 full, le-ltb minute 59 over, le-ltb hour 23 late)
        (time_at (s + 1) (d + 1) 0 0 0 (omega arith) (omega arith) (omega arith) (omega arith) ∙ date_next d (omega arith)))
        (less? hour 23))
        (less? minute 59))
        (less? second 59)

pub follows_calendar : Calendar
unfolding moment count_off year_days month_days is_leap any
follows_calendar = record { begins = refl; ticks = ticks; ends = refl }

-- ---- how large the parts of a moment are, and its words

pub record Ranged (t : Moment) : Type 0 where
  pub year_low : 1980 ≤ t.year
  pub year_high : t.year < 2108
  pub month_low : 1 ≤ t.month
  pub month_high : t.month < 13
  pub day_low : 1 ≤ t.day
  pub day_high : t.day < 32
  pub hours : t.hour < 24
  pub minutes : t.minute < 60
  pub seconds : t.second < 60

module _ (s : ℕ) (h : s ≤ last_second) where
  pub moment_ranged : Ranged (moment s)
  unfolding moment
  moment_ranged =
      let y = year_of (s / 86400) in
      let m = month_of y.unit y.days in
      let r = year_reached (s / 86400) (omega arith) in
      let q = month_reached y.unit y.days r.2 in
      record {
        year_low = r.0;
        year_high = r.1;
        month_low = q.0;
        month_high = q.1;
        day_low = omega arith;
        day_high = omega (arith, q.2, (month_long y.unit m.unit).1);
        hours = omega arith;
        minutes = omega arith;
        seconds = omega arith;
      }

  pub time_small : time_word (moment s) < 65536
  time_small = omega (arith, moment_ranged)

  pub date_small : date_word (moment s) < 65536
  date_small = omega (arith, moment_ranged)

  pub stamp_small : stamp_of s < 256 ^ 4
  unfolding stamp_of
  stamp_small = omega (arith, time_small, date_small)

  pub stamp_time_of : stamp_time (stamp_of s) ≡ time_word (moment s)
  unfolding stamp_of
  stamp_time_of = omega (arith, time_small)

  pub stamp_date_of : stamp_date (stamp_of s) ≡ date_word (moment s)
  unfolding stamp_of
  stamp_date_of = omega (arith, time_small)
