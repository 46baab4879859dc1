-- Replace on card K, worked out by hand: rows as in `Worked`, after M4, in which ROUTE.CUT has 1,300 bytes in clusters 10, 11 and 12. The
-- bytes are arbitrary.
use Rattle.std.specs.Prelude.{◌≡◌, List, [], ◌∷◌, map, get_or}
use Rattle.model.specs.Bytes.{Bytes, zeros}
use Rattle.model.specs.Scan.{range}
use Rattle.model.specs.Sector.{Store, store}
use Rattle.model.specs.Fat.{entry, fat1_of}
use Rattle.model.specs.Text.{ascii}
use Rattle.model.specs.Listing.{log_text}
use Rattle.model.specs.Outcome.{Done, Stopped}
use Rattle.operations.specs.Calls.{Call, creates, replaces, plan}
use Rattle.operations.specs.Outcome.{made, left, largest}
use Rattle.worked.specs.CardK.{k, route, morning, afternoon, span, trace, Row, row, file}
use Rattle.worked.specs.Worked.{m4, k4, volume_k, cut_at}

-- M3 and M4; then replace by 600 bytes, by none, an empty file by none, and by 100.
abbrev pub replacements : Bytes → Bytes → List Call
replacements d e =
    creates route morning ∷ m4 d ∷ replaces route (span 600 e) afternoon ∷ replaces route (span 0 e) afternoon ∷ replaces route (span 0 e) afternoon
    ∷ replaces route (span 100 d) afternoon ∷ []

-- 600 bytes take clusters 13 and 14, since 10 to 12 do not count as free: data sectors 76 and 77, FAT2, group, FAT1, root, commit. By no
-- bytes no data is stored and DIR_Cluster is 0; an empty file by none still takes a group: three stores. At last cluster 10 is free again.
abbrev pub replacement_rows : List Row
replacement_rows =
    row (65 ∷ 33 ∷ 65 ∷ []) 0 (file 0 [])
    ∷ row (73 ∷ 74 ∷ 75 ∷ 17 ∷ 66 ∷ 1 ∷ 33 ∷ 66 ∷ []) 10 (file 1300 (10 ∷ 11 ∷ 12 ∷ []))
    ∷ row (76 ∷ 77 ∷ 17 ∷ 67 ∷ 1 ∷ 33 ∷ 67 ∷ []) 13 (file 600 (13 ∷ 14 ∷ []))
    ∷ row (17 ∷ 68 ∷ 1 ∷ 33 ∷ 68 ∷ []) 0 (file 0 [])
    ∷ row (69 ∷ 33 ∷ 69 ∷ []) 0 (file 0 [])
    ∷ row (73 ∷ 17 ∷ 70 ∷ 1 ∷ 33 ∷ 70 ∷ []) 10 (file 100 (10 ∷ []))
    ∷ []

abbrev pub by_600 : Bytes → Call
by_600 e = replaces route (span 600 e) afternoon

-- The bytes of the group's store, the fourth.
abbrev pub group_bytes : List Store → Bytes
group_bytes ss = (get_or ss 3 (store 0 zeros)).bytes

pub record Replacing (d e : Bytes) : Type 0 where
  pub history : trace (replacements d e) k ≡ replacement_rows
  -- The entries of clusters 10 to 15 in FAT1: the old ones free, 13 leads to 14, which ends the chain.
  pub entries : map (entry (fat1_of volume_k.layout (left largest (by_600 e) (k4 d)).card)) (range 10 6) ≡ 0 ∷ 0 ∷ 0 ∷ 14 ∷ 0xFFFF ∷ 0 ∷ []
  -- Cut at the group's store and recovered, the new file; cut one before it, the old one.
  pub cut_4 : cut_at 4 (by_600 e) (k4 d)
      ≡ record { cut = Stopped 4; stored = 1 ∷ 33 ∷ 67 ∷ []; recovered = Done 3; file_then = file 600 (13 ∷ 14 ∷ []) }
  pub cut_3 : cut_at 3 (by_600 e) (k4 d)
      ≡ record { cut = Stopped 3; stored = 17 ∷ []; recovered = Done 1; file_then = file 1300 (10 ∷ 11 ∷ 12 ∷ []) }
  -- The record: the old first cluster in first/last, the new one in DIR_Cluster, the new size. "The listing prints `replace`."
  -- Then its stamp, as a part.
  pub listing : log_text (span 512 (group_bytes (made largest (plan (by_600 e) (k4 d)))))
      ≡ ascii "log 1 sectors\n0 0 replace pending ROUTE.CUT slot 0 first 10 from 13 size 600\n0 1 part pending T???????.??? slot 0 first 0 from 0 size 0\n"
