-- Whether bytes fit on card K, worked out by hand. Its clusters are 2 to 4,086, of 512 bytes each, and 2 to 9 are the log: 10 to 4,086 are free,
-- 4,077 of them, which hold 2,087,424 bytes. After M4 the first three are ROUTE.CUT's: 4,074 are left, which hold 2,085,888.
use Rattle.std.specs.Prelude.{ℕ, ◌-◌, ◌≡◌, List, [], ◌∷◌, map, ◌&&◌, leb, ltb, eqb}
use Rattle.model.specs.Bytes.{Bytes, pick}
use Rattle.model.specs.Scan.{between}
use Rattle.model.specs.Sector.{Window, clip}
use Rattle.model.specs.Outcome.{Outcome, Refused, Done, No}
use Rattle.model.specs.declared.Ground.TheVariants as Ground
use Rattle.operations.specs.Outcome.{left, outcome_number}
use Rattle.operations.specs.Fitting.{fits, fit_outcome}
use Rattle.worked.specs.CardK.{k, window_k, log_fat}
use Rattle.worked.specs.Worked.{k3, k4, m4}

-- Card K without a free cluster: the entries of 10 to 4,086 hold 0xFFFF. Those after them, 4,087 to 4,095, are 0: from byte 494 on in the
-- last sector of the FAT.
unfoldable pub full_fat : ℕ → Bytes
full_fat s j = pick (eqb s 0 && ltb j 20) (log_fat j) (pick (eqb s 15 && leb 494 j) 0 0xFF)

unfoldable pub full : Window
full = record {
  size = k.size;
  card = λ s. clip (pick (between 1 16 s) (full_fat (s - 1)) (pick (between 17 32 s) (full_fat (s - 17)) (k.card s)));
}

unfoldable pub asked : List ℕ → Window → List Outcome
asked ns w = map (λ n. fit_outcome (fits w n)) ns

pub record Fitting (d : Bytes) : Type 0 where
  pub on_k : asked (0 ∷ 1 ∷ 512 ∷ 513 ∷ 2087424 ∷ 2087425 ∷ 18446744073709551615 ∷ []) k
      ≡ Done 0 ∷ Done 10 ∷ Done 10 ∷ Done 11 ∷ Done 4086 ∷ No ∷ No ∷ []
  pub after_m4 : asked (0 ∷ 1 ∷ 513 ∷ 2085888 ∷ 2085889 ∷ []) (k4 d) ≡ Done 0 ∷ Done 13 ∷ Done 14 ∷ Done 4086 ∷ No ∷ []
  pub on_full : asked (0 ∷ 1 ∷ []) full ≡ Done 0 ∷ No ∷ []
  -- As numbers: 11, and 254 × 2 ^ 32.
  pub numbers : map (λ n. outcome_number n) (asked (513 ∷ 2087425 ∷ []) k) ≡ 11 ∷ 1090921693184 ∷ []
  -- A card with 4,149 sectors; M4 cut after its fourth store.
  pub boot : asked (0 ∷ []) (window_k 4149) ≡ Refused Ground.Boot ∷ []
  pub unclean : asked (0 ∷ []) (left 4 (m4 d) k3) ≡ Refused Ground.Unclean ∷ []
