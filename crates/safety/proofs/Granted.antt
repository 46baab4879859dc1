-- A call that is not refused: what its grounds tell, and which operation it makes.
use Prim.Native.Nat.{ℕ, ◌+◌, ◌-◌, ◌≤◌, ◌<◌}
use native.Mathlib.Nat.{zero-add}
use native.Mathlib.Omega.{arith}
use mathlib.Core.Path.{◌≡◌, refl, sym, ap, ◌∙◌}
use mathlib.Core.Logic.{◌⊎◌, inl, inr, ⊎_elim}
use mathlib.Core.List.{[]}
use mathlib.Core.Bool.{true, false, ◌&&◌, ◌||◌, not}
use lib.Dec.{ltb, eqb}
use lib.ListN.{length}
use borrow.Author.Tests.{ltb-true, ltb-false, not-false, eqb-true, eqb-false}
use Rattle.model.specs.Bytes.{Span}
use Rattle.model.specs.Sector.{Card, Window}
use Rattle.model.specs.Fat.{Fat, release, free_clusters}
use Rattle.model.specs.Chain.{needed}
use Rattle.model.specs.LongName.{text_ok}
use Rattle.model.specs.Root.{slot_at, name_ok, free_run, free_slot, file_size, entry_at, file_at, is_file, is_directory, is_locked}
use Rattle.model.specs.Ground.{Answer, granted, ◌>>=◌}
use Rattle.model.specs.Calendar.{stamp_of, last_second}
use Rattle.model.specs.Volume.{clean, clean_at}
use Rattle.model.specs.declared.File.{File}
use Rattle.model.specs.declared.Layout.{Layout}
use Rattle.model.specs.declared.Pending.{Pending}
use Rattle.model.specs.declared.Volume.{Volume}
use Rattle.operations.specs.Program.{Program, ending}
use Rattle.operations.specs.Plan.{no_text, slots_for, operate, create_stores, rename_stores}
use Rattle.operations.specs.Plan.{delete_stores, truncate_stores, truncate_along, append_stores, append_along}
use Rattle.operations.specs.Plan.{replace_stores, replace_along, clusters_of, new_clusters, added, fresh_clusters}
use Rattle.operations.specs.Calls.{creates, creates_long, renames, deletes, truncates, appends, replaces}
use Rattle.operations.specs.Calls.{plan, create, rename, delete, truncate, append, replace}
use Rattle.operations.specs.Calls.{create_as, create_on, create_long, create_long_on, run_end, text_taken, rename_on, delete_on, truncate_on}
use Rattle.operations.specs.Calls.{append_on, replace_on, rename_as, truncate_as, append_to, replace_file}
use Rattle.operations.specs.Calls.{unless_none, taken, root_full, new_slot, file_named, file_of, slot_of, name_of}
use Rattle.model.proofs.Needed.{needed_none}
use Rattle.operations.proofs.Added.{added_sum}
use Rattle.safety.specs.Sound.{proper}
use Rattle.operations.proofs.Spelled.{TextFine}
use Rattle.model.proofs.Tests.{which, or_false, and_left, and_right, and_both}
use Rattle.model.proofs.Grounds.{then, asked, bound}
use Rattle.model.proofs.Names.{Live, found_live, found_listed}
use Rattle.model.proofs.Volumes.{window, layout_of, first_fat, volume_of, timely}
use Rattle.safety.proofs.Start.{Start, shape_of}
use Rattle.safety.proofs.Operations.{KeepsChain}
use Rattle.safety.proofs.Readings.{Meant, admitted_in, unmarked_in, found_in}
use Rattle.safety.proofs.Supplied.{creates_as, renames_as, deletes_as, truncates_as, cut_fat, updates_as, longer_fat, replaces_as}
use Rattle.safety.proofs.Supplied.{exchanged_fat, ks}
use Rattle.safety.proofs.Extents.{Extent, ds, extent_of, no_base, file_base}
use Rattle.model.specs.declared.Access.TheVariants as Access
use Rattle.model.specs.declared.Ground.TheVariants as Ground

module _ {size : ℕ} {c : Card} (st : Start size c) (is : clean (window size c) ≡ granted (volume_of c Pending.Nothing)) where
  abbrev l : Layout
  l = layout_of c

  abbrev v : Volume
  v = volume_of c Pending.Nothing

  abbrev w : Window
  w = window size c

  abbrev fat : Fat
  fat = first_fat c

  abbrev at : Span → ℕ
  at n = slot_of v c n

  opened : {B : Type 0} (k : Volume → Answer B) (a : Answer B) → (clean w >>= k) ≡ a → k v ≡ a
  opened k a h = sym (then (clean w) k v is) ∙ h

  -- The seconds of a granted call pass CLOCK.
  opened_at : {B : Type 0} (sec : ℕ) (k : Volume → Answer B) (b : B) → (clean_at w sec >>= k) ≡ granted b → (sec ≤ last_second) × (k v ≡ granted b)
  opened_at sec k b h =
      let a = bound (clean_at w sec) k b h in
      let t = timely w sec a.0 a.1 in
      let e : granted a.0 ≡ granted v = sym t.0 ∙ is in
      let same : a.0 ≡ v = cc in
      (t.1, ap k (sym same) ∙ a.2)

  -- A run of m free slots is there.
  abbrev pub Room : ℕ → Type 0
  Room m = free_run l c m < l.entries + 1 - m

  room_in : (m : ℕ) → root_full v c m ≡ false → Room m
  unfolding root_full
  room_in m h = ltb-true (free_run l c m) (l.entries + 1 - m) (not-false (ltb (free_run l c m) (l.entries + 1 - m)) h)

  unused : (n : Span) → taken v c n ≡ false → l.entries ≤ at n
  unfolding taken
  unused n h = ltb-false (at n) l.entries h

  placed : (n t : Span) (s : ℕ) → new_slot v c n t ≡ granted s → (l.entries ≤ at n) × Room (slots_for t + 1) × (run_end l c t ≡ s)
  unfolding new_slot
  placed n t s h =
      let h1 = asked Ground.Exists (taken v c n || text_taken v c t) _ s h in
      let h2 = asked Ground.Rootfull (root_full v c (slots_for t + 1)) _ s h1.1 in
      let e : granted (run_end l c t) ≡ granted s = h2.1 in
      (unused n (or_false (taken v c n) (text_taken v c t) h1.0).0, room_in (slots_for t + 1) h2.0, (cc))

  pub live_at : (n : Span) → at n < l.entries → Live l c (at n)
  unfolding slot_of
  live_at n less = found_live l c (name_of n) less

  pub file_at_name : (n : Span) → at n < l.entries → is_directory (slot_at l c (at n)) ≡ false → is_file (slot_at l c (at n)) ≡ true
  unfolding slot_of is_file
  file_at_name n less plain = and_both _ _ (found_listed l c (name_of n) less) (ap not plain)

  -- ---- create and rename

  -- A create, with a text or without.
  pub record Created (n t : Span) (sec : ℕ) (p : Program) : Type 0 where
    pub timely : sec ≤ last_second
    pub ok : name_ok n ≡ true
    pub fine : TextFine t
    pub unused : l.entries ≤ at n
    pub room : Room (slots_for t + 1)
    pub same : operate v c [] fat (creates_as st n t (stamp_of sec)) ≡ p

  created_as : (n t : Span) (sec : ℕ) (p : Program) → sec ≤ last_second → name_ok n ≡ true → TextFine t
      → create_as v c n t (stamp_of sec) ≡ granted p → Created n t sec p
  unfolding create_as create_stores
  created_as n t sec p timely ok fine h =
      let b = bound (new_slot v c n t) _ p h in
      let a = placed n t b.0 b.1 in
      let e : granted (create_stores v c b.0 (name_of n) t (stamp_of sec)) ≡ granted p = b.2 in
      let s : create_stores v c b.0 (name_of n) t (stamp_of sec) ≡ p = cc in
      record { timely = timely; ok = ok; fine = fine; unused = a.0; room = a.1; same = ap (λ k. create_stores v c k (name_of n) t (stamp_of sec)) a.2 ∙ s }

  pub create_granted : (n : Span) (sec : ℕ) (p : Program) → plan (creates n sec) w ≡ granted p → Created n no_text sec p
  unfolding plan create create_on
  create_granted n sec p h =
      let a = opened_at sec _ p h in
      let h1 = asked Ground.Name (not (name_ok n)) _ p a.1 in
      created_as n no_text sec p a.0 (not-false (name_ok n) h1.0) (inl refl) h1.1

  pub long_granted : (n t : Span) (sec : ℕ) (p : Program) → plan (creates_long n t sec) w ≡ granted p → Created n t sec p
  unfolding plan create_long create_long_on
  long_granted n t sec p h =
      let a = opened_at sec _ p h in
      let h1 = asked Ground.Name (not (name_ok n)) _ p a.1 in
      let h2 = asked Ground.Longname (not (text_ok t)) _ p h1.1 in
      created_as n t sec p a.0 (not-false (name_ok n) h1.0) (inr (not-false (text_ok t) h2.0)) h2.1

  pub record Renamed (n m : Span) (p : Program) : Type 0 where
    pub ok : name_ok n ≡ true
    pub new_ok : name_ok m ≡ true
    pub live : Live l c (at n)
    pub plain : is_directory (slot_at l c (at n)) ≡ false
    pub unmarked : is_locked (slot_at l c (at n)) ≡ false
    pub unused : l.entries ≤ at m
    pub room : free_slot l c < l.entries
    pub same : operate v c [] fat (renames_as st (at n) live m) ≡ p

  pub rename_granted : (n m : Span) (p : Program) → plan (renames n m) w ≡ granted p → Renamed n m p
  unfolding plan rename rename_on rename_as rename_stores file_at entry_at
  rename_granted n m p h =
      let h1 = asked Ground.Name (not (name_ok n && name_ok m)) _ p (opened _ (granted p) h) in
      let b = bound (file_named Access.Write v c n) _ p h1.1 in
      let a = admitted_in w v is Access.Write n b.0 b.1 in
      let g = bound (new_slot v c m no_text) _ p b.2 in
      let t = placed m no_text g.0 g.1 in
      let free : free_slot l c ≡ g.0 = (let is = t.2 in omega arith) in
      let e : granted (rename_stores v c b.0 g.0 (name_of m)) ≡ granted p = g.2 in
      let s : rename_stores v c b.0 g.0 (name_of m) ≡ p = cc in
      let names : (name_ok n && name_ok m) ≡ true = not-false (name_ok n && name_ok m) h1.0 in
      record {
        ok = and_left (name_ok n) (name_ok m) names;
        new_ok = and_right (name_ok n) (name_ok m) names;
        live = live_at n a.in_root;
        plain = a.plain;
        unmarked = unmarked_in w v is n b.0 b.1;
        unused = t.0;
        room = (let less = t.1 in omega arith);
        same = ap (λ f. rename_stores v c f (free_slot l c) (name_of m)) a.is ∙ ap (λ k. rename_stores v c b.0 k (name_of m)) free ∙ s;
      }

  -- ---- calls on a file that keeps the chain rule

  pub record NamedFile (n : Span) : Type 0 where
    pub found : Meant v c n (at n)
    pub live : Live l c (at n)
    pub keeps : KeepsChain c (at n)
    pub file : is_file (slot_at l c (at n)) ≡ true
    pub unmarked : is_locked (slot_at l c (at n)) ≡ false

  named_in : (n : Span) (f : File) → file_of Access.Write v c n ≡ granted f → NamedFile n
  unfolding proper
  named_in n f h = let b = found_in w v is Access.Write n f h in let a = b.meant in record {
    found = a;
    live = live_at n a.in_root;
    keeps = a.keeps;
    file = file_at_name n a.in_root a.plain;
    unmarked = unmarked_in w v is n f b.named;
  }

  found_file : (n : Span) (f : File) → file_of Access.Write v c n ≡ granted f → file_at l c (at n) ≡ f
  found_file n f h = (found_in w v is Access.Write n f h).mine

  pub record Deleted (n : Span) (p : Program) : Type 0 where
    pub it : NamedFile n
    pub same : operate v c [] (release (ks st (at n) it.live it.keeps) fat) (deletes_as st (at n) it.live it.keeps) ≡ p

  pub delete_granted : (n : Span) (p : Program) → plan (deletes n) w ≡ granted p → Deleted n p
  unfolding plan delete delete_on delete_stores file_at entry_at clusters_of
  delete_granted n p h =
      let b = bound (file_of Access.Write v c n) _ p (opened _ (granted p) h) in
      let e : granted (delete_stores v c b.0) ≡ granted p = b.2 in
      let s : delete_stores v c b.0 ≡ p = cc in
      record { it = named_in n b.0 b.1; same = ap (delete_stores v c) (found_file n b.0 b.1) ∙ s }

  -- A call that stores nothing where a number is 0, else q.
  abbrev pub Unless : ℕ → Program → Program → Type 0
  Unless n q p = ((n ≡ 0) × (p ≡ ending [])) ⊎ ((n ≡ 0 → ⊥) × (q ≡ p))

  unless_is : (n : ℕ) (q p : Program) → unless_none n q ≡ p → Unless n q p
  unfolding unless_none
  unless_is n q p h = ⊎_elim (λ a. inl (eqb-true n 0 a.0, sym a.1)) (λ a. inr (eqb-false n 0 a.0, a.1)) (which (eqb n 0) (ending []) q p h)

  pub record Truncated (n : Span) (m sec : ℕ) (p : Program) : Type 0 where
    pub timely : sec ≤ last_second
    pub it : NamedFile n
    pub less : m ≤ file_size (slot_at l c (at n))
    pub same : Unless (file_size (slot_at l c (at n)) - m)
        (operate v c [] (cut_fat st (at n) it.live it.keeps m) (truncates_as st (at n) it.live it.keeps m (stamp_of sec))) p

  pub truncate_granted : (n : Span) (m sec : ℕ) (p : Program) → plan (truncates n m sec) w ≡ granted p → Truncated n m sec p
  unfolding plan truncate truncate_on truncate_as truncate_stores truncate_along file_at clusters_of
  truncate_granted n m sec p h =
      let a = opened_at sec _ p h in
      let b = bound (file_of Access.Write v c n) _ p a.1 in
      let f : File = b.0 in
      let h2 = asked Ground.Length (ltb f.size m) _ p b.2 in
      let e : granted (unless_none (f.size - m) (truncate_stores v c f m (stamp_of sec))) ≡ granted p = h2.1 in
      let s : unless_none (f.size - m) (truncate_stores v c f m (stamp_of sec)) ≡ p = cc in
      let mine : file_at l c (at n) ≡ f = found_file n f b.1 in
      let sized : file_size (slot_at l c (at n)) ≡ f.size = ap (λ f. f.size) mine in
      let le : m ≤ f.size = ltb-false f.size m h2.0 in
      record {
        timely = a.0;
        it = named_in n f b.1;
        less = omega arith;
        same = unless_is _ _ p
            (ap (λ (g : File). unless_none (g.size - m) (truncate_stores v c g m (stamp_of sec))) mine ∙ s);
      }

  -- The clusters that an append is written along.
  abbrev pub Growth : (n d : Span) → NamedFile n → Type 0
  Growth n d g = Extent c (ks st (at n) g.live g.keeps) (new_clusters v c (file_at l c (at n)) d.size) (file_size (slot_at l c (at n))) d

  pub record Appended (n d : Span) (sec : ℕ) (p : Program) : Type 0 where
    pub timely : sec ≤ last_second
    pub it : NamedFile n
    pub extent : Growth n d it
    pub same : Unless d.size
        (operate v c (ds st extent) (longer_fat st (at n) it.live it.keeps extent) (updates_as st (at n) it.live it.keeps extent (stamp_of sec))) p

  pub append_granted : (n d : Span) (sec : ℕ) (p : Program) → plan (appends n d sec) w ≡ granted p → Appended n d sec p
  unfolding plan append append_on append_to append_stores append_along file_at clusters_of new_clusters
  append_granted n d sec p h =
      let a = opened_at sec _ p h in
      let b = bound (file_of Access.Write v c n) _ p a.1 in
      let f : File = b.0 in
      let h2 = asked Ground.Nospace (ltb (length (free_clusters l fat)) (added l f d.size)) _ p b.2 in
      let e : granted (unless_none d.size (append_stores v c f d (stamp_of sec))) ≡ granted p = h2.1 in
      let s : unless_none d.size (append_stores v c f d (stamp_of sec)) ≡ p = cc in
      let mine : file_at l c (at n) ≡ f = found_file n f b.1 in
      let space : added l f d.size ≤ length (free_clusters l fat) = ltb-false (length (free_clusters l fat)) (added l f d.size) h2.0 in
      let it : NamedFile n = named_in n f b.1 in
      let m : ℕ = added l (file_at l c (at n)) d.size in
      record {
        timely = a.0;
        it = it;
        extent = extent_of st (file_base st (at n) it.live it.keeps) d m (rw (ap (λ g. added l g d.size) mine) space)
            (added_sum l (shape_of st).factor_low (file_at l c (at n)) d.size);
        same = unless_is _ _ p
            (ap (λ g. unless_none d.size (append_stores v c g d (stamp_of sec))) mine ∙ s);
      }

  -- The clusters that a replace is written along: new ones alone.
  abbrev pub Renewal : Span → Type 0
  Renewal d = Extent c [] (fresh_clusters v c d.size) 0 d

  pub record Replaced (n d : Span) (sec : ℕ) (p : Program) : Type 0 where
    pub timely : sec ≤ last_second
    pub it : NamedFile n
    pub extent : Renewal d
    pub same : operate v c (ds st extent) (exchanged_fat st (at n) it.live it.keeps extent) (replaces_as st (at n) it.live it.keeps extent
        (stamp_of sec)) ≡ p

  pub replace_granted : (n d : Span) (sec : ℕ) (p : Program) → plan (replaces n d sec) w ≡ granted p → Replaced n d sec p
  unfolding plan replace replace_on replace_file replace_stores replace_along file_at clusters_of fresh_clusters
  replace_granted n d sec p h =
      let a = opened_at sec _ p h in
      let b = bound (file_of Access.Write v c n) _ p a.1 in
      let f : File = b.0 in
      let m : ℕ = needed l d.size in
      let h2 = asked Ground.Nospace (ltb (length (free_clusters l fat)) m) _ p b.2 in
      let e : granted (replace_stores v c f d (stamp_of sec)) ≡ granted p = h2.1 in
      let s : replace_stores v c f d (stamp_of sec) ≡ p = cc in
      record {
        timely = a.0;
        it = named_in n f b.1;
        extent = extent_of st (no_base st) d m (ltb-false (length (free_clusters l fat)) m h2.0)
            (simp (needed_none l (shape_of st).factor_low, zero-add));
        same = ap (λ g. replace_stores v c g d (stamp_of sec)) (found_file n f b.1) ∙ s;
      }
