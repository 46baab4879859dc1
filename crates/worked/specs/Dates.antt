-- Dates on card K, worked out by hand. From 1 January 1980 to that of 2000 it is 7,305 days, five of them leap days, and to that of 2100 it is 43,830,
-- thirty of them leap days. A date is 512 for each year since 1980, 32 for each month, and the day: 28 and 29 February 2000 are 10,332 and 10,333,
-- 0x285C and 0x285D; 28 February and 1 March 2100 are 61,532 and 61,537, 0xF05C and 0xF061. A time is 2,048 for each hour, 32 for each minute, and half
-- the seconds: 23:59:59 is 49,021, 0xBF7D. The bytes appended are arbitrary.
use Rattle.std.specs.Prelude.{ℕ, ◌≡◌, List, [], ◌∷◌, ◌++◌, map, get_or, replicate}
use Rattle.model.specs.Bytes.{Bytes, le, view, patch}
use Rattle.model.specs.Scan.{range}
use Rattle.model.specs.Sector.{Card, Window, Store, store, put, after}
use Rattle.model.specs.Root.{slot_at}
use Rattle.model.specs.Ground.{Answer, refused}
use Rattle.model.specs.Outcome.{Refused, Done}
use Rattle.model.specs.declared.Ground.TheVariants as Ground
use Rattle.operations.specs.Program.{Program}
use Rattle.operations.specs.Calls.{Call, creates, creates_long, appends, truncates, deletes, renames, replaces, recovers, plan}
use Rattle.operations.specs.Outcome.{made, left, largest, outcome_number}
use Rattle.worked.specs.CardK.{k, route, letter, span, trace_on}
use Rattle.worked.specs.Worked.{volume_k}
use Rattle.worked.specs.Locked.{answers}
use Rattle.worked.specs.Spelling.{letters}

-- 23:59:59 on 28 February 2000, and the next second: the 29th begins 7,364 days after 1980 did. "The year 2100 has no leap day": 23:59:59 on its
-- 28 February, and the next second, when 1 March begins, 43,889 days after.
abbrev pub leap_eve : ℕ
leap_eve = 636249599

abbrev pub leap_day : ℕ
leap_day = 636249600

abbrev pub common_eve : ℕ
common_eve = 3792009599

abbrev pub common_day : ℕ
common_day = 3792009600

-- "18 CLOCK, the seconds exceed 4,039,286,399": the last second that passes, and the first that does not.
abbrev pub timely : ℕ
timely = 4039286399

abbrev pub late : ℕ
late = 4039286400

-- ---- what is seen: the sectors stored, and the 32 bytes of root slots 0 and 1

pub record DateRow : Type 0 where
  pub stored : List ℕ
  pub slot0 : List ℕ
  pub slot1 : List ℕ

abbrev pub date_row : List ℕ → List ℕ → List ℕ → DateRow
date_row ss a b = record { stored = ss; slot0 = a; slot1 = b }

abbrev pub slot_bytes : Card → ℕ → List ℕ
slot_bytes c s = map (slot_at volume_k.layout c s) (range 0 32)

unfoldable pub date_row_of : List Store → Card → DateRow
date_row_of ss c = date_row (map (λ s. s.sector) ss) (slot_bytes c 0) (slot_bytes c 1)

-- After a program; after the recovery of one that was cut by a limit.
unfoldable pub date_row_after : Answer Program → Card → DateRow
date_row_after p c = let ss = made largest p in date_row_of ss (after ss c)

unfoldable pub date_row_recovered : ℕ → Answer Program → Window → DateRow
date_row_recovered limit p w =
    let c = after (made limit p) w.card in
    date_row_after (plan recovers (record { size = w.size; card = c })) c

-- ---- ROUTE.CUT created, appended to, shortened, replaced, renamed and deleted

abbrev pub changes : Bytes → Bytes → List Call
changes d e =
    creates route leap_eve ∷ appends route (span 1300 d) leap_day ∷ truncates route 512 common_eve ∷ replaces route (span 600 e) common_day
    ∷ renames route (letter 66) ∷ deletes (letter 66) ∷ []

-- Bytes 11 to 31 of its slot after each of the first four: attributes, reserved, tenths; creation time and date; access date; high word; write time and
-- date; first cluster; size. "A new file gets all its dates and times from it, tenths 0; the others set write time, write date and access date."
abbrev pub new : List ℕ
new = 0x20 ∷ 0 ∷ 0 ∷ 0x7D ∷ 0xBF ∷ 0x5C ∷ 0x28 ∷ 0x5C ∷ 0x28 ∷ 0 ∷ 0 ∷ 0x7D ∷ 0xBF ∷ 0x5C ∷ 0x28 ∷ 0 ∷ 0 ∷ 0 ∷ 0 ∷ 0 ∷ 0 ∷ []

abbrev pub longer : List ℕ
longer = 0x20 ∷ 0 ∷ 0 ∷ 0x7D ∷ 0xBF ∷ 0x5C ∷ 0x28 ∷ 0x5D ∷ 0x28 ∷ 0 ∷ 0 ∷ 0 ∷ 0 ∷ 0x5D ∷ 0x28 ∷ 10 ∷ 0 ∷ 0x14 ∷ 5 ∷ 0 ∷ 0 ∷ []

abbrev pub shorter : List ℕ
shorter = 0x20 ∷ 0 ∷ 0 ∷ 0x7D ∷ 0xBF ∷ 0x5C ∷ 0x28 ∷ 0x5C ∷ 0xF0 ∷ 0 ∷ 0 ∷ 0x7D ∷ 0xBF ∷ 0x5C ∷ 0xF0 ∷ 10 ∷ 0 ∷ 0 ∷ 2 ∷ 0 ∷ 0 ∷ []

abbrev pub replaced : List ℕ
replaced = 0x20 ∷ 0 ∷ 0 ∷ 0x7D ∷ 0xBF ∷ 0x5C ∷ 0x28 ∷ 0x61 ∷ 0xF0 ∷ 0 ∷ 0 ∷ 0 ∷ 0 ∷ 0x61 ∷ 0xF0 ∷ 11 ∷ 0 ∷ 0x58 ∷ 2 ∷ 0 ∷ 0 ∷ []

-- After a create at 0:00:00 on 1 January 1980, and at 23:59:59 on 31 December 2107, whose date is 127 * 512 + 12 * 32 + 31, 0xFF9F.
abbrev pub at_first : List ℕ
at_first = 0x20 ∷ 0 ∷ 0 ∷ 0 ∷ 0 ∷ 0x21 ∷ 0 ∷ 0x21 ∷ 0 ∷ 0 ∷ 0 ∷ 0 ∷ 0 ∷ 0x21 ∷ 0 ∷ 0 ∷ 0 ∷ 0 ∷ 0 ∷ 0 ∷ 0 ∷ []

abbrev pub at_last : List ℕ
at_last = 0x20 ∷ 0 ∷ 0 ∷ 0x7D ∷ 0xBF ∷ 0x9F ∷ 0xFF ∷ 0x9F ∷ 0xFF ∷ 0 ∷ 0 ∷ 0x7D ∷ 0xBF ∷ 0x9F ∷ 0xFF ∷ 0 ∷ 0 ∷ 0 ∷ 0 ∷ 0 ∷ 0 ∷ []

-- A slot of this first byte with the rest of ROUTE.CUT's name, and with the rest of B's; one that is free.
abbrev pub as_route : ℕ → List ℕ → List ℕ
as_route b fields = b ∷ 79 ∷ 85 ∷ 84 ∷ 69 ∷ 32 ∷ 32 ∷ 32 ∷ 67 ∷ 85 ∷ 84 ∷ fields

abbrev pub as_letter : ℕ → List ℕ → List ℕ
as_letter b fields = b ∷ replicate 10 32 ++ fields

abbrev pub free : List ℕ
free = replicate 32 0

-- 600 bytes take clusters 11 and 12, which the truncate freed: data sectors 74 and 75. Rename and delete take no seconds: they set no date.
abbrev pub change_rows : List DateRow
change_rows =
    date_row (65 ∷ 33 ∷ 65 ∷ []) (as_route 82 new) free
    ∷ date_row (73 ∷ 74 ∷ 75 ∷ 17 ∷ 66 ∷ 1 ∷ 33 ∷ 66 ∷ []) (as_route 82 longer) free
    ∷ date_row (17 ∷ 67 ∷ 1 ∷ 33 ∷ 67 ∷ []) (as_route 82 shorter) free
    ∷ date_row (74 ∷ 75 ∷ 17 ∷ 68 ∷ 1 ∷ 33 ∷ 68 ∷ []) (as_route 82 replaced) free
    ∷ date_row (69 ∷ 33 ∷ 69 ∷ []) (as_route 0xE5 replaced) (as_letter 66 replaced)
    ∷ date_row (17 ∷ 70 ∷ 1 ∷ 33 ∷ 70 ∷ []) (as_route 0xE5 replaced) (as_letter 0xE5 replaced)
    ∷ []

-- The windows after the first of them and after the second.
abbrev pub k_new : Window
k_new = left largest (creates route leap_eve) k

abbrev pub k_longer : Bytes → Window
k_longer d = left largest (appends route (span 1300 d) leap_day) k_new

-- Creation time and creation date in slot 0.
abbrev pub words : DateRow → List ℕ
words t = le 2 (λ j. get_or t.slot0 j 0) 14 ∷ le 2 (λ j. get_or t.slot0 j 0) 16 ∷ []

-- ---- calls that take seconds

-- Each of the five, also those that would make no store.
abbrev pub clocked : Bytes → ℕ → List Call
clocked e s =
    creates (letter 66) s ∷ creates_long (letter 66) (letters 14) s ∷ appends route (span 100 e) s ∷ appends route (span 0 e) s ∷ truncates route 512 s
    ∷ truncates route 1300 s ∷ replaces route (span 600 e) s ∷ replaces route (span 0 e) s ∷ []

-- Each of them with a small letter for a name, and one with a question mark for a long name.
abbrev pub misnamed : Bytes → ℕ → List Call
misnamed e s =
    creates (letter 97) s ∷ creates_long (letter 97) (letters 14) s ∷ appends (letter 97) (span 100 e) s ∷ truncates (letter 97) 512 s
    ∷ replaces (letter 97) (span 600 e) s ∷ creates_long (letter 66) (view (63 ∷ 0 ∷ [])) s ∷ []

-- A window in which record 1 of log sector 65 is unused.
unfoldable pub unstamped : Window → Window
unstamped w = record { size = w.size; card = put w.card (store 65 (patch 32 0 32 (w.card 65))) }

-- ---- a long name of 14 characters: two long slots, 0 and 1, and the short one, 2

-- The sectors stored, bytes 32 to 63 of log sector 65 after that, the stamp's record, and the 32 bytes of slot 2.
pub record LongRow : Type 0 where
  pub stored : List ℕ
  pub part : List ℕ
  pub short : List ℕ

unfoldable pub long_row_of : List Store → Card → LongRow
long_row_of ss c = record { stored = map (λ s. s.sector) ss; part = map (c 65) (range 32 32); short = slot_bytes c 2 }

-- After the first stores of a program, up to a limit; after the recovery of a program cut by it.
unfoldable pub long_row_after : ℕ → Answer Program → Card → LongRow
long_row_after limit p c = let ss = made limit p in long_row_of ss (after ss c)

unfoldable pub long_row_recovered : ℕ → Answer Program → Window → LongRow
long_row_recovered limit p w =
    let c = after (made limit p) w.card in
    long_row_after largest (plan recovers (record { size = w.size; card = c })) c

abbrev pub long_call : Answer Program
long_call = plan (creates_long route (letters 14) leap_eve) k

-- "with operation 0, first byte 0x54, the time at 14, the date at 16 and zero elsewhere": of this first byte.
abbrev pub stamp_part : ℕ → List ℕ
stamp_part b = b ∷ replicate 13 0 ++ (0x7D ∷ 0xBF ∷ 0x5C ∷ 0x28 ∷ replicate 14 0)

pub record Dated (d e : Bytes) : Type 0 where
  -- Each call's stores, and both slots after it.
  pub history : trace_on date_row_of (λ c. c) (changes d e) k ≡ change_rows
  -- "Seconds are halved, rounding down": the second before gives the bytes that the odd one gave.
  pub even : date_row_after (plan (creates route 636249598) k) k.card ≡ date_row (65 ∷ 33 ∷ 65 ∷ []) (as_route 82 new) free
  -- The first second: the dates are 0x0021, as all were before there was a clock.
  pub earliest : date_row_after (plan (creates route 0) k) k.card ≡ date_row (65 ∷ 33 ∷ 65 ∷ []) (as_route 82 at_first) free
  -- The last second that passes; its words as numbers.
  pub latest : date_row_after (plan (creates route timely) k) k.card ≡ date_row (65 ∷ 33 ∷ 65 ∷ []) (as_route 82 at_last) free
  pub latest_words : words (date_row_after (plan (creates route timely) k) k.card) ≡ 49021 ∷ 65439 ∷ []
  -- "Appending 0 bytes or truncating to the present size makes no store", and so sets no date.
  pub none : answers (appends route (span 0 e) common_eve ∷ truncates route 1300 common_eve ∷ []) (k_longer d) ≡ Done 0 ∷ Done 0 ∷ []
  -- "18 CLOCK, .., asked right after UNCLEAN": on a clean card, before NAME and LONGNAME, which answer where the seconds pass; as a number 18 × 2 ^ 32.
  pub clock : answers (clocked e late) (k_longer d) ≡ replicate 8 (Refused Ground.Clock)
  pub clock_first : answers (misnamed e late) (k_longer d) ≡ replicate 6 (Refused Ground.Clock)
  pub names_then : answers (misnamed e timely) (k_longer d) ≡ replicate 5 (Refused Ground.Name) ++ (Refused Ground.Longname ∷ [])
  pub number : outcome_number (Refused Ground.Clock) ≡ 77309411328
  -- With a group pending, UNCLEAN.
  pub unclean : answers (clocked e late) (left 1 (creates route leap_eve) k) ≡ replicate 8 (Refused Ground.Unclean)
  -- The create cut before its group's store and after it, and recovered: "Recovery gives that same stamp."
  pub cut_0 : date_row_recovered 0 (plan (creates route leap_eve) k) k ≡ date_row [] free free
  pub cut_1 : date_row_recovered 1 (plan (creates route leap_eve) k) k ≡ date_row (33 ∷ 65 ∷ []) (as_route 82 new) free
  -- So with the append, whose group's store is the fifth.
  pub append_4 : date_row_recovered 4 (plan (appends route (span 1300 d) leap_day) k_new) k_new ≡ date_row (17 ∷ []) (as_route 82 new) free
  pub append_5 : date_row_recovered 5 (plan (appends route (span 1300 d) leap_day) k_new) k_new ≡ date_row (1 ∷ 33 ∷ 66 ∷ []) (as_route 82 longer) free
  -- "RECORD requires the extra record in these groups": the create's group as it was before there were stamps.
  pub without : plan recovers (unstamped (left 1 (creates route leap_eve) k)) ≡ refused Ground.Record
  -- The group of the long name, the finished call, and the call cut at its group and recovered.
  pub long_group : long_row_after 1 long_call k.card ≡ record { stored = 65 ∷ []; part = stamp_part 0x54; short = free }
  pub long : long_row_after largest long_call k.card ≡ record { stored = 65 ∷ 33 ∷ 65 ∷ []; part = stamp_part 0xE5; short = as_route 82 new }
  pub long_cut : long_row_recovered 1 long_call k ≡ record { stored = 33 ∷ 65 ∷ []; part = stamp_part 0xE5; short = as_route 82 new }
