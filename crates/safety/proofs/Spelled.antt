-- A long name is read back as it was given, its slots are those that were filled, and its text is taken.
use Prim.Native.Nat.{ℕ, ◌-◌, ◌*◌, ◌/◌, ◌≤◌, ◌<◌, min}
use native.Mathlib.Omega.{arith}
use mathlib.Core.Path.{◌≡◌, sym, ap, ◌∙◌, subst}
use mathlib.Core.List.{[]}
use mathlib.Core.Bool.{true, ◌||◌, not}
use lib.Dec.{ltb, eqb}
use borrow.Author.Tests.{eq-eqb, lt-ltb, not-false}
use Rattle.model.specs.Bytes.{Span, overlay}
use Rattle.model.specs.Sector.{Card, Window}
use Rattle.model.specs.Root.{Directory, slot_at, name_ok, bears, listed}
use Rattle.model.specs.Long.{checksum, name_slots, long_count}
use Rattle.model.specs.LongName.{name_entry, text_ok, character, long_byte, long_character, long_length, has_text, find_text}
use Rattle.model.specs.Calendar.{stamp_of, last_second}
use Rattle.model.specs.Ground.{refused, granted}
use Rattle.model.specs.Volume.{clean, clean_at}
use Rattle.model.specs.declared.Layout.{Layout}
use Rattle.model.specs.declared.Pending.{Pending}
use Rattle.model.specs.declared.Volume.{Volume}
use Rattle.model.specs.declared.Ground.TheVariants as Ground
use Rattle.model.specs.Outcome.{Done}
use Rattle.operations.specs.Program.{Program}
use Rattle.operations.specs.Finish.{new_entry}
use Rattle.operations.specs.Plan.{slots_for, text_of}
use Rattle.operations.specs.Calls as Calls
use Rattle.operations.specs.Calls.{create_as, taken}
use Rattle.operations.specs.Calls.{creates_long, create_long, create_long_on, recovers, plan, name_of, slot_of, run_end, old_slots, new_slots, changed_by}
use Rattle.operations.specs.Outcome.{left, largest}
use Rattle.operations.specs.Reading.{long_name, long_name_on, long_reading, filled_outcome, buffer_after}
use Rattle.safety.specs.Demand3.{Genuine, finished, recoveries, SameTables, settles_as}
use Rattle.safety.specs.Spelled.{Spelled, NameReadBack, NameRecovered, EntriesFound, TextTaken}
use Rattle.model.proofs.Tests.{each_every, ◌also◌, and_both, or_right}
use Rattle.model.proofs.Scan.{all_of0, first_upto0}
use Rattle.model.proofs.Names.{found_listed}
use Rattle.model.proofs.Laying.{overlay_same}
use Rattle.model.proofs.Grounds.{then, ends, passed, barred, asked, bound}
use Rattle.model.proofs.ReadBack.{Written, sum_local, written_count, written_length, written_byte, written_character}
use Rattle.model.proofs.Volumes.{window, layout_of, first_fat, volume_of, at_granted}
use Rattle.operations.proofs.Spelled.{text_in, text_some, text_few, same_character, text_allowed, allowed_some, span_length}
use Rattle.safety.proofs.Start.{Start, shape_of, slots_same}
use Rattle.safety.proofs.Theorem.{demand3, after_calls}
use Rattle.safety.proofs.Ended.{Ended}
use Rattle.safety.proofs.Slots.{means_same}
use Rattle.safety.proofs.Supplied.{creates_as}
use Rattle.safety.proofs.Granted.{Created, long_granted}
use Rattle.safety.proofs.Moved.{finish_with, new_in, new_slot, entry_slot, create_found, create_end}
use Rattle.safety.proofs.Saved.{started, volume_is}
use Rattle.safety.proofs.Restored.{restored}

-- A name means slot s, and before it stand the entries of a text that LONGNAME lets pass.
record Worded (v : Volume) (x : Card) (n t : Span) (s : ℕ) : Type 0 where
  ok : name_ok n ≡ true
  fine : text_ok t ≡ true
  at : slot_of v x n ≡ s
  in_root : s < v.layout.entries
  written : Written (slot_at v.layout x) s (text_of t) (t.size / 2)

-- ---- what is read of it

module _ (x : Window) (v : Volume) (is : clean x ≡ granted v) (n t : Span) (s : ℕ) (h : Worded v x.card n t s)
    (small : (i : ℕ) → i < t.size → t.byte i < 256) where
  abbrev d : Directory
  d = slot_at v.layout x.card

  full : (q : ℕ) → q < t.size / 2 → character (text_of t) q ≡ 0 → ⊥
  full q less = allowed_some (character (text_of t) q) (text_allowed t h.fine q less)

  bytes_small : (i : ℕ) → i < 2 * (t.size / 2) → text_of t i < 256
  bytes_small i less = subst (λ b. b < 256) (sym (text_in t i (omega arith))) (small i (omega arith))

  its_length : long_length d s ≡ t.size / 2
  its_length = written_length d s (text_of t) (t.size / 2) h.written full bytes_small

  its_byte : (i : ℕ) → i < 2 * (t.size / 2) → long_byte d s i ≡ t.byte i
  its_byte i less = written_byte d s (text_of t) (t.size / 2) h.written full bytes_small i less ∙ text_in t i (omega arith)

  its_character : (q : ℕ) → q < t.size / 2 → long_character d s q ≡ character t.byte q
  its_character q less = written_character d s (text_of t) (t.size / 2) h.written full bytes_small q less ∙ same_character t h.fine q less

  read_granted : (room : ℕ) → long_name x n room ≡ granted (long_reading d s room)
  unfolding long_name long_name_on
  read_granted room =
      then (clean x) _ v is ∙ passed Ground.Name (not (name_ok n)) _ (ap not h.ok)
      ∙ passed Ground.Absent (not (ltb (slot_of v x.card n) v.layout.entries)) _
      (ap (λ s. not (ltb s v.layout.entries)) h.at ∙ ap not (lt-ltb s v.layout.entries h.in_root))
      ∙ ap (λ s. granted (long_reading d s room)) h.at

  spelled_of : Spelled x n t
  unfolding filled_outcome buffer_after long_reading
  spelled_of = record {
    count = λ room. ap filled_outcome (read_granted room) ∙ ap Done its_length;
    bytes = λ room b i.
        (λ k. buffer_after (read_granted room k) b i)
        ∙ (λ k. overlay (2 * min (room / 2) (its_length k)) (long_byte d s) 0 b i)
        ∙ overlay_same (2 * min (room / 2) (t.size / 2)) (long_byte d s) t.byte 0 b (λ j less. its_byte j (omega arith)) i;
  }

  -- ---- a second create with its text

  its_listed : listed (d s) ≡ true
  unfolding slot_of
  its_listed = subst (λ s. listed (d s) ≡ true) h.at
      (found_listed v.layout x.card (name_of n) (subst (λ s. s < v.layout.entries) (sym h.at) h.in_root))

  has_it : has_text t d s ≡ true
  unfolding has_text
  has_it = each_every _ (its_listed also eq-eqb (long_length d s) (t.size / 2) its_length
      also all_of0 (λ q. eqb (long_character d s q) (character t.byte q)) (t.size / 2) (λ q less. eq-eqb _ _ (its_character q less)) also tt)

  taken_text : Calls.text_taken v x.card t ≡ true
  unfolding Calls.text_taken find_text
  taken_text =
      let low : find_text v.layout x.card t ≤ s = first_upto0 (λ k. has_text t d k) v.layout.entries s has_it in
      let some = text_some t h.fine in
      and_both (ltb 0 t.size) _ (lt-ltb 0 t.size (omega arith))
      (lt-ltb (find_text v.layout x.card t) v.layout.entries (omega (arith, h.in_root)))

  taken_again : (m : Span) (sec : ℕ) → sec ≤ last_second → name_ok m ≡ true → plan (creates_long m t sec) x ≡ refused Ground.Exists
  unfolding plan create_long create_long_on create_as Calls.new_slot
  taken_again m sec timely ok =
      then (clean_at x sec) _ v (at_granted x sec v is timely) ∙ passed Ground.Name (not (name_ok m)) _ (ap not ok) ∙ passed Ground.Longname (not
      (text_ok t)) _ (ap not h.fine)
      ∙ ends (Calls.new_slot v x.card m t) _ Ground.Exists
      (barred Ground.Exists (taken v x.card m || Calls.text_taken v x.card t) _ (or_right (taken v x.card m) _ taken_text))

-- ---- the card that a create leaves

text_granted : (w : Window) (n t : Span) (sec : ℕ) (p : Program) → plan (creates_long n t sec) w ≡ granted p → text_ok t ≡ true
unfolding plan create_long create_long_on
text_granted w n t sec p h =
    let b = bound (clean_at w sec) _ p h in
    let h1 = asked Ground.Name (not (name_ok n)) _ p b.2 in
    not-false (text_ok t) (asked Ground.Longname (not (text_ok t)) _ p h1.1).0

module _ {size : ℕ} {c : Card} (st : Start size c) (is : clean (window size c) ≡ granted (volume_of c Pending.Nothing)) (n t : Span)
    (sec : ℕ) (p : Program) (fine : text_ok t ≡ true) (g : Created st is n t sec p) where
  abbrev l : Layout
  l = layout_of c

  abbrev v : Volume
  v = volume_of c Pending.Nothing

  abbrev s : ℕ
  s = run_end l c t

  module _ {u : Card} (end : Ended size c [] (first_fat c) (creates_as st n t (stamp_of sec)) u) where
    sum_is : checksum (slot_at l u s) ≡ checksum (new_entry (name_of n) (stamp_of sec))
    sum_is = sum_local 11 (slot_at l u s) (new_entry (name_of n) (stamp_of sec))
        (λ j less. end.slots s (new_in st is n t p g end) j (omega arith) ∙ (λ k. new_slot st is n t p g end k j))

    entry_is : (i : ℕ) → 1 ≤ i → i ≤ slots_for t → (j : ℕ) → j < 32
        → slot_at l u (s - i) j ≡ name_entry (checksum (slot_at l u s)) (text_of t) (t.size / 2) i j
    entry_is i low high j less =
        let back : s - (s - i) ≡ i = omega arith in
        end.slots (s - i) (omega (arith, new_in st is n t p g end)) j less
        ∙ (λ k. entry_slot st is n t p g end (s - i) (omega arith, omega arith) (λ e. omega arith) k j)
        ∙ (λ k. name_entry (sym sum_is k) (text_of t) (span_length t g.fine k) (back k) j)

    worded : Worded v u n t s
    worded = record {
      ok = g.ok;
      fine = fine;
      at = (create_found st is n t p g end).at;
      in_root = new_in st is n t p g end;
      written = record { some = text_some t fine; few = text_few t fine; room = omega arith; entries = entry_is };
    }

  left_worded : plan (creates_long n t sec) (window size c) ≡ granted p → Worded v (left largest (creates_long n t sec) (window size c)).card n t s
  left_worded h = finish_with st is (λ x. Worded v x.card n t s) (creates_long n t sec) p _ h g.same (worded (create_end st is n t p g))

created : (w : Window) (v : Volume) → Genuine w → clean w ≡ granted v → (n t : Span) (sec : ℕ) (p : Program) → plan (creates_long n t sec) w ≡ granted p
    → Worded v (finished (creates_long n t sec) w) n t (run_end v.layout w.card t)
created w v real is n t sec p h =
    let st : Start w.size w.card = started w v real is in
    let same : v ≡ volume_of w.card Pending.Nothing = volume_is w v is in
    let now : clean w ≡ granted (volume_of w.card Pending.Nothing) = is ∙ ap granted same in
    rw same (left_worded st now n t sec p (text_granted w n t sec p h) (long_granted st now n t sec p h) h)

pub name_read_back : NameReadBack
name_read_back w v real is n t sec small p h =
    spelled_of (left largest (creates_long n t sec) w) v (after_calls (creates_long n t sec) w v real is).clean_again n t _
    (created w v real is n t sec p h) small

-- ---- its slots

pub entries_found : EntriesFound
unfolding old_slots changed_by new_slots
entries_found w v real is n t sec p h =
    let x : Card = finished (creates_long n t sec) w in
    let k = created w v real is n t sec p h in
    ap (λ s. name_slots s (long_count (slot_at v.layout x) s)) k.at
    ∙ ap (name_slots (run_end v.layout w.card t))
    (written_count (slot_at v.layout x) (run_end v.layout w.card t) (text_of t) (t.size / 2) k.written)

-- ---- after a cut

-- Cards with the same slots mean the same slot by a name, and have the same entries before it.
kept_worded : (v : Volume) (y z : Card) → ((k : ℕ) → k < v.layout.entries → slot_at v.layout y k ≡ slot_at v.layout z k)
    → (n t : Span) (s : ℕ) → Worded v z n t s → Worded v y n t s
kept_worded v y z same n t s h = record {
  ok = h.ok;
  fine = h.fine;
  at = means_same v z n y (λ k less. ap (bears (name_of n)) (same k less)) ∙ h.at;
  in_root = h.in_root;
  written = record {
    some = h.written.some;
    few = h.written.few;
    room = h.written.room;
    entries = λ i low high j less.
        (λ k. same (s - i) (omega (arith, h.in_root)) k j) ∙ h.written.entries i low high j less
        ∙ (λ k. name_entry (checksum (sym (same s h.in_root) k)) (text_of t) (t.size / 2) i j);
  };
}

pub name_recovered : NameRecovered
name_recovered w v real is n t sec small p h limit limits once m stored ends =
    spelled_of (left once recovers (recoveries limits (left limit (creates_long n t sec) w))) v
    ((restored (creates_long n t sec) w v real is limit limits once).clean_again m ends) n t _
    (kept_worded v _ (finished (creates_long n t sec) w) same n t _ (created w v real is n t sec p h)) small
  where
    y : Card
    y = (left once recovers (recoveries limits (left limit (creates_long n t sec) w))).card

    tables : SameTables v.layout y (finished (creates_long n t sec) w)
    tables = subst (λ b. SameTables v.layout y (settles_as b (creates_long n t sec) w)) stored
        ((demand3 (creates_long n t sec) w v real is limit limits once).tables m ends)

    same : (k : ℕ) → k < v.layout.entries → slot_at v.layout y k ≡ slot_at v.layout (finished (creates_long n t sec) w) k
    same = slots_same v.layout (rw (volume_is w v is) (shape_of (started w v real is))) y (finished (creates_long n t sec) w) tables.root

-- ---- its text

pub text_taken : TextTaken
text_taken w v real is n t sec small p h =
    taken_again (left largest (creates_long n t sec) w) v (after_calls (creates_long n t sec) w v real is).clean_again n t _
    (created w v real is n t sec p h) small
