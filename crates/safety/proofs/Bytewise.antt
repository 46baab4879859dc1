-- Stores of bytes: what every operation and recovery writes on a card of bytes.
use Prim.Native.Nat.{ℕ, zero, suc, ◌+◌, ◌-◌, ◌*◌, ◌/◌, ◌%◌, ◌≤◌, ◌<◌}
use native.Mathlib.Omega.{arith}
use mathlib.Core.Path.{sym, subst}
use mathlib.Core.List.{List, [], ◌∷◌, ◌++◌, map}
use mathlib.Core.Bool.{Bool, true, ◌&&◌}
use lib.Dec.{ltb, eqb}
use lib.ListN.{get_or, length}
use borrow.Author.Tests.{ltb-true, ltb-false}
use Rattle.model.specs.Bytes.{Bytes, Span, pick, patch, zeros}
use Rattle.model.specs.Scan.{range}
use Rattle.model.specs.Sector.{Card, Store, after, put}
use Rattle.model.specs.Fat.{Fat, fat1_of, fat2_of, set_entry, set_wide_entry, link, release}
use Rattle.model.specs.Chain.{file_sector}
use Rattle.model.specs.Root.{Directory, slot_at}
use Rattle.model.specs.Record.{record_bytes, records, lay, encode, committed, commit, group_in}
use Rattle.model.specs.declared.Record.{Record}
use Rattle.model.specs.Record.{Group}
use Rattle.model.specs.declared.Layout.{Layout}
use Rattle.model.specs.Record.{Change}
use Rattle.model.specs.declared.Pending.{Pending}
use Rattle.model.specs.declared.Volume.{Volume}
use Rattle.operations.specs.Program.{stores}
use Rattle.operations.specs.Finish.{Edit, set_slots, edits, effect, root_sector, finish}
use Rattle.operations.specs.Plan.{prepare, group_store, operate, journal, new_group, last_of, extend, shorten, exchange, appended, append_sector, data_stores}
use Rattle.operations.specs.Plan.{recover_stores}
use Rattle.model.proofs.Tests.{by_pick}
use Rattle.model.proofs.All.{All, all_append, all_image, all_map}
use Rattle.model.proofs.Indices.{indices_all}
use Rattle.model.proofs.Numbers.{Small, patched}
use Rattle.model.proofs.Cards.{put_case}
use Rattle.model.proofs.Fats.{write_all}
use Rattle.model.proofs.Changes.{Clipped, Keeps, after_keeps, put_clipped}
use Rattle.operations.proofs.Edits.{Laid, laid_small, Bears, again}
use Rattle.operations.proofs.Roots.{redo_stores}
use Rattle.safety.proofs.Steps.{prepare_all, finish_all}

-- Bytes are below 256: of a run (`Small`), of a store, of a card, of a FAT.
abbrev pub SmallStore : Store → Type 0
SmallStore s = Small s.bytes

abbrev pub SmallCard : Card → Type 0
SmallCard x = (n : ℕ) → Small (x n)

-- ---- runs

none : Small zeros
none j = omega arith

if_small : (t : Bool) (a b : Bytes) → Small a → Small b → Small (pick t a b)
if_small t a b h k = by_pick Small t a b (λ _. h) (λ _. k)

-- ---- records

record_small : (r : Record) → Small (record_bytes r)
unfolding record_bytes
record_small r =
    patched 8 r.name.stem 0 _ (patched 3 r.name.extension 8 _ (patched 1 r.attributes 11 _ (patched 1 r.count 12 _ (patched 1 r.number 13 _
    (patched 4 r.directory 14 _ (patched 2 r.slot 18 _ (patched 2 r.high 20 _
    (patched 4 r.from 22 _ (patched 2 r.cluster 26 _ (patched 4 r.size 28 zeros none))))))))))

records_small : (rs : List Record) → All Small (map record_bytes rs)
records_small [] = tt
records_small (r ∷ rs) = (record_small r, records_small rs)

get_or_small : (rs : List Bytes) (i : ℕ) → All Small rs → Small (get_or rs i zeros)
get_or_small [] i a = none
get_or_small (r ∷ rs) zero a = a.0
get_or_small (r ∷ rs) (suc i) a = get_or_small rs i a.1

encode_small : (o : Change) → Small o.text → Small (encode o)
unfolding encode lay
encode_small o text j =
    by_pick (λ x. x < 256) (ltb j (32 * length (records o))) (lay (map record_bytes (records o)) j) (o.text (j - 32 * length (records o)))
    (λ _. get_or_small (map record_bytes (records o)) (j / 32) (records_small (records o)) (j % 32)) (λ _. text (j - 32 * length (records o)))

committed_small : (n : ℕ) (b : Bytes) → Small b → Small (committed n b)
unfolding committed
committed_small n b h j = by_pick (λ x. x < 256) (eqb (j % 32) 0 && ltb j (32 * n)) 0xE5 (b j) (λ _. omega arith) (λ _. h j)

-- ---- slots

-- An edit makes bytes of bytes (`again`).
set_small : (es : List Edit) (d : Directory) (j : ℕ) → All (λ e. Laid e.change j) es → ((k : ℕ) → d k j < 256) → (k : ℕ) → set_slots es d k j < 256
unfolding set_slots
set_small [] d j a h k = h k
set_small (e ∷ es) d j a h k = by_pick (λ (b : Bytes). b j < 256) (eqb k e.slot) (e.change (d e.source)) (set_slots es d k)
    (λ _. laid_small e.change j a.0 (d e.source) (h e.source)) (λ _. set_small es d j a.1 h k)

effect_small : (o : Change) (d : Directory) → ((k : ℕ) → Small (d k)) → (k : ℕ) → Small (effect o d k)
unfolding effect
effect_small o d h k j =
    set_small (edits o) d j (all_map (λ e. Laid e.change j × Bears (edits o) e j) (λ e. Laid e.change j) (λ e a. a.0) (edits o) (again o j))
    (λ i. h i j) k

-- ---- FATs

entry_small : (k v : ℕ) (f : Fat) → SmallCard f → SmallCard (set_entry k v f)
unfolding set_wide_entry
entry_small k v f h s = if_small (eqb s (k / 256)) (patch 2 v (2 * (k % 256)) (f s)) (f s) (patched 2 v (2 * (k % 256)) (f s) (h s)) (h s)

link_small : (ks : List ℕ) (f : Fat) → SmallCard f → SmallCard (link ks f)
unfolding link
link_small [] f h = h
link_small (k ∷ []) f h = entry_small k 0xFFFF f h
link_small (k ∷ (j ∷ r)) f h = link_small (j ∷ r) (set_entry k j f) (entry_small k j f h)

pub release_small : (ks : List ℕ) (f : Fat) → SmallCard f → SmallCard (release ks f)
unfolding release
release_small [] f h = h
release_small (k ∷ ks) f h = release_small ks (set_entry k 0 f) (entry_small k 0 f h)

pub extend_small : (old new : List ℕ) (f : Fat) → SmallCard f → SmallCard (extend old new f)
unfolding extend
extend_small old [] f h = h
extend_small old (k ∷ ks) f h = link_small (last_of old ++ (k ∷ ks)) f h

pub exchange_small : (old new : List ℕ) (f : Fat) → SmallCard f → SmallCard (exchange old new f)
unfolding exchange
exchange_small old new f h = release_small old (link new f) (link_small new f h)

pub shorten_small : (kept freed : List ℕ) (f : Fat) → SmallCard f → SmallCard (shorten kept freed f)
unfolding shorten exchange
shorten_small kept [] f h = h
shorten_small kept (k ∷ ks) f h = exchange_small (k ∷ ks) (last_of kept) f h

-- ---- stores

put_small : (s : Store) → SmallStore s → Keeps SmallCard s
put_small s h x k n = put_case Small x s n (λ _ j. h (j % 512)) (λ _. k n)

pub after_small : (ss : List Store) (x : Card) → All SmallStore ss → SmallCard x → SmallCard (after ss x)
after_small ss x a h = after_keeps SmallCard ss (all_map SmallStore (Keeps SmallCard) put_small ss a) x h

pub after_clipped : (ss : List Store) (x : Card) → Clipped x → Clipped (after ss x)
after_clipped ss x h = after_keeps Clipped ss (each ss) x h
  where
    each : (ss : List Store) → All (Keeps Clipped) ss
    each [] = tt
    each (s ∷ ss) = (λ x. put_clipped x s, each ss)

pub data_small : (l : Layout) (c : Card) (ks : List ℕ) (old : ℕ) (d : Span) → SmallCard c → ((i : ℕ) → i < d.size → d.byte i < 256)
    → All SmallStore (data_stores l c ks old d)
unfolding data_stores append_sector appended
data_small l c ks old d h small =
    let st : ℕ → Store = λ q. append_sector c (file_sector l ks q) old d q in
    all_image SmallStore st (range (old / 512) ((old + d.size + 511) / 512 - old / 512))
    (indices_all (λ q. SmallStore (st q)) (λ k. true) (old / 512) _
    (λ q lo hi e j. one (c (file_sector l ks q)) (h (file_sector l ks q)) (512 * q + j % 512) (j % 512)))
  where
    one : (b : Bytes) → Small b → (i j : ℕ) → pick (ltb i old) (b j) (pick (ltb i (old + d.size)) (d.byte (i - old)) 0) < 256
    one b k i j = by_pick (λ x. x < 256) (ltb i old) (b j) _ (λ _. k j)
        (λ e. by_pick (λ x. x < 256) (ltb i (old + d.size)) (d.byte (i - old)) 0
        (λ f. let low : old ≤ i = ltb-false i old e in let high : i < old + d.size = ltb-true i (old + d.size) f in small (i - old) (omega arith))
        (λ _. omega arith))

pub operate_small : (v : Volume) (c : Card) (ds : List Store) (f : Fat) (o : Change) → SmallCard c → All SmallStore ds → SmallCard f
    → Small o.text → All SmallStore (stores (operate v c ds f o))
unfolding operate journal new_group group_store commit root_sector slot_at
operate_small v c ds f o h own fat text =
    let l : Layout = v.layout in
    let prep : List Store = prepare v c ds f in
    let g : Group = new_group v.log c o in
    let u : Card = put (after prep c) (group_store g) in
    let before : All SmallStore prep = prepare_all v c ds f SmallStore own (λ s less j. fat s (j % 512)) (λ i less j. omega arith) in
    let group : SmallStore (group_store g) = λ j. encode_small o text (j % 512) in
    let small : SmallCard u = put_small (group_store g) group (after prep c) (after_small prep c before h) in
    let rest : All SmallStore (finish l o u) = finish_all l o u SmallStore (λ s less j. small _ (j % 512))
    (λ r less j. effect_small o (slot_at l u) (λ k i. small _ (32 * (k % 16) + i)) (16 * r + j % 512 / 32) (j % 512 % 32)) in
    let mark : SmallStore (commit u g) = λ j. committed_small g.records (u g.sector) (small g.sector) (j % 512) in
    all_append SmallStore prep _ before
    (group, subst (All SmallStore) (sym (redo_stores l g u)) (all_append SmallStore (finish l o u) _ rest (mark, tt)))

-- ---- recovery, on any card of bytes

pub recover_small : (l : Layout) (x : Card) (p : Pending) → SmallCard x → All SmallStore (stores (recover_stores l x p))
unfolding recover_stores commit root_sector slot_at
recover_small l x Pending.Nothing h = write_all l l.fat2 (fat1_of l x) (fat2_of l x) SmallStore (λ s less j. h (l.fat1 + s) (j % 512))
recover_small l x Pending.Broken h = tt
recover_small l x (Pending.Held n) h =
    let g : Group = group_in n (x n) in
    let rest : All SmallStore (finish l g.change x) = finish_all l g.change x SmallStore (λ s less j. h _ (j % 512))
    (λ r less j. effect_small g.change (slot_at l x) (λ k i. h _ (32 * (k % 16) + i)) (16 * r + j % 512 / 32) (j % 512 % 32)) in
    let mark : SmallStore (commit x g) = λ j. committed_small g.records (x g.sector) (h g.sector) (j % 512) in
    subst (All SmallStore) (sym (redo_stores l g x)) (all_append SmallStore (finish l g.change x) _ rest (mark, tt))
