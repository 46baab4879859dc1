-- Append by its parts: grounds, the stores of the chain, and the steps through the log.
use Prim.Native.Nat.{ℕ, ◌+◌, ◌<◌, ◌≤◌}
use native.Mathlib.Omega.{arith}
use mathlib.Core.Path.{◌≡◌, sym, ap, subst}
use Rattle.std.proofs.Common.{Result, Ok, Err}
use Rattle.model.specs.declared.Stopped.{Stopped}
use mathlib.Core.List.{List, []}
use lib.ListN.{length}
use lib.Dec.{eqb}
use borrow.Author.Tests.{lt-ltb, le-ltb}
use mathlib.Core.Bool.{true, false}
use Rattle.model.specs.Bytes.{Span}
use Rattle.model.specs.Sector.{Card, card_of, Store}
use Rattle.model.specs.Fat.{Fat, entry, fat1_of, fat2_of, free_clusters, write_fat}
use Rattle.model.specs.Ground.{refused, granted, ◌when◌, ◌>>◌}
use Rattle.model.specs.Promises.{Shape, Spent}
use Rattle.model.specs.declared.Area.{Area}
use Rattle.model.specs.declared.Layout.{Layout}
use Rattle.model.specs.declared.File.{File}
use Rattle.model.specs.declared.Volume.{Volume}
use Rattle.model.specs.declared.Ground.{Ground}
use Rattle.model.specs.Record.{plain}
use Rattle.model.specs.Record.{Change}
use Rattle.model.specs.declared.Operation.TheVariants.{Update}
use Rattle.model.proofs.All.{All, all_map}
use Rattle.model.proofs.Cards.{Away}
use Rattle.model.proofs.Chains.{Used, chain_used}
use Rattle.operations.specs.Program.{ending, stores}
use Rattle.operations.specs.Plan.{clusters_of, last_cluster, added, new_clusters, operate, append_along, append_stores}
use Rattle.operations.specs.Calls.{append_to, unless_none}
use Rattle.volume.specs.Opened.{Ready}
use Rattle.volume.proofs.Ready.{ready_run, ready_log}
use Rattle.file_read.specs.Files.{Proper}
use Rattle.fat_write.specs.Allocate.{grown}
use Rattle.fat_write.proofs.Extends.{extend_grown}
use Rattle.fat_write.proofs.Kept.{free_kept, grown_kept}
use Rattle.file_append.specs.Extents.{append_data, Room, first_new}
use Rattle.file_append.proofs.Apart.{append_off_log}
use Rattle.file_append.proofs.Front.{front_kept, data_then}
use Rattle.log_steps.specs.Steps.{log_steps}
use Rattle.log_steps.proofs.Parts.{operate_cut, operate_ran}
use Rattle.call_append.specs.Append.{chain_stores}

-- ---- grounds

module _ (c : Card) (v : Volume) (f : File) (d : Span) (st : ℕ) where
  abbrev free_count : ℕ
  free_count = length (free_clusters v.layout (fat1_of v.layout c))

  pub append_full : free_count < added v.layout f d.size → append_to v c f d st ≡ refused Ground.Nospace
  unfolding append_to ◌when◌ ◌>>◌
  append_full h = rw (lt-ltb free_count (added v.layout f d.size) h)

  pub append_none : added v.layout f d.size ≤ free_count → eqb d.size 0 ≡ true → append_to v c f d st ≡ granted (ending [])
  unfolding append_to ◌when◌ ◌>>◌ unless_none
  append_none h e = rw (le-ltb free_count (added v.layout f d.size) h, e)

  pub append_some : added v.layout f d.size ≤ free_count → eqb d.size 0 ≡ false → append_to v c f d st ≡ granted (append_stores v c f d st)
  unfolding append_to ◌when◌ ◌>>◌ unless_none
  append_some h e = rw (le-ltb free_count (added v.layout f d.size) h, e)

-- ---- the chain

-- The clusters of a file are not 0.
old_used : (l : Layout) (c : Card) (f : File) → Shape l → Proper l c f → All (λ k. k ≡ 0 → ⊥) (clusters_of l (fat1_of l c) f)
unfolding clusters_of
old_used l c f sh h = all_map (Used l (entry (fat1_of l c))) (λ k. k ≡ 0 → ⊥) (λ k u e. let low : 2 ≤ k = u.low in omega arith)
    (clusters_of l (fat1_of l c) f) (chain_used l sh.few (entry (fat1_of l c)) sh.factor_low f.first f.size h)

-- ---- data and FAT2 under one limit

module _ (l : Layout) (f : File) (d : Span) {limit left : ℕ} {e x : List ℕ} {r : Result Unit Stopped} (sh : Shape l) (h : Proper l (card_of e) f)
    (so : Spent limit left (append_data l (card_of e) f d) e x r) where
  pub enough_kept : {n : ℕ} → n ≤ length (free_clusters l (fat1_of l (card_of e))) → n ≤ length (free_clusters l (fat1_of l (card_of x)))
  enough_kept enough = rw (free_kept l sh (card_of e) (card_of x) (front_kept l f d so sh h)) enough

  pub chain_ran : {u : Unit} → r ≡ Ok u → (last n : ℕ) → {k : ℕ} {y : List ℕ} {q : Result Unit Stopped}
      → Spent left k (write_fat l l.fat2 (grown l (fat1_of l (card_of x)) last n) (fat2_of l (card_of x))) x y q
      → Spent limit k (chain_stores l (card_of e) f d last n) e y q
  chain_ran g last n next =
      data_then l f d so g (λ c. write_fat l l.fat2 (grown l (fat1_of l c) last n) (fat2_of l c))
      (grown_kept l sh (card_of e) (card_of x) (front_kept l f d so sh h) last n) next

-- ---- the steps through the log

module _ (v : Volume) (xs : List ℕ) (f : File) (d : Span) (st : ℕ) (ready : Ready v xs) (room : Room v.layout (card_of xs) f d.size) where
  abbrev c : Card
  c = card_of xs

  abbrev old : List ℕ
  old = clusters_of v.layout (fat1_of v.layout c) f

  abbrev n : ℕ
  n = added v.layout f d.size

  abbrev ds : List Store
  ds = append_data v.layout c f d

  abbrev new_fat : Fat
  new_fat = grown v.layout (fat1_of v.layout c) (last_cluster old) n

  abbrev update : Change
  update = plain (Update f.entry (last_cluster old) (first_new v.layout c n) (f.size + d.size) st)

  sh : Shape v.layout
  sh = ready.held.fits.shape

  off_log : (s : ℕ) → s < v.log.sectors → Away ds (v.log.sector + s)
  off_log s = subst (λ (a : Area). s < a.sectors → Away ds (a.sector + s)) (sym (ready_log v xs ready))
      (append_off_log v.layout c f d sh room.chain room.enough (ready_run v xs ready) s)

  append_is : append_stores v c f d st ≡ operate v c ds new_fat update
  unfolding append_stores append_along new_clusters
  append_is = ap (λ (t : Fat). operate v c ds t update)
      (extend_grown old (old_used v.layout c f sh room.chain) (fat1_of v.layout c) v.layout n room.enough)

  module _ {limit left : ℕ} {x : List ℕ} {r : Result Unit Stopped} (last count : ℕ) (end : last ≡ last_cluster old) (many : count ≡ n)
      (so : Spent limit left (chain_stores v.layout c f d last count) xs x r) where
    pub append_cut : {z : Stopped} → r ≡ Err z → Spent limit left (stores (append_stores v c f d st)) xs x (Err z)
    append_cut g = rw append_is (operate_cut v ds new_fat update sh ready.lies.above off_log g (rw (end, many) at so))

    pub append_ran : {u : Unit} → r ≡ Ok u → (from size : ℕ) → from ≡ first_new v.layout c count → size ≡ f.size + d.size
        → {k : ℕ} {y : List ℕ} {q : Result Unit Stopped}
        → Spent left k (log_steps v (plain (Update f.entry last from size st)) (card_of x)) x y q
        → Spent limit k (stores (append_stores v c f d st)) xs y q
    append_ran g from size first total next =
        rw append_is (operate_ran v ds new_fat update sh ready.lies.above off_log g (rw (end, many) at so) (rw (end, first, many, total) at next))
