-- What read says of a clean card: the bytes of a file that keeps the chain rule, and nothing else.
use Prim.Native.Nat.{ℕ, ◌+◌, ◌-◌, ◌<◌, ◌≤◌, min}
use native.Mathlib.Omega.{arith}
use mathlib.Core.Path.{◌≡◌, refl, sym, ap, ◌∙◌}
use mathlib.Core.Bool.{true, false, not}
use borrow.Author.Tests.{not-false}
use Rattle.model.specs.Bytes.{Bytes, Span, overlay}
use Rattle.model.specs.Sector.{Card, Window}
use Rattle.model.specs.Root.{slot_at, name_ok, is_directory, is_locked, file_at, file_size, slot_holds}
use Rattle.model.specs.Ground.{Answer, refused, granted, ◌>>=◌}
use Rattle.model.specs.Volume.{clean}
use Rattle.model.specs.declared.File.{File}
use Rattle.model.specs.declared.Layout.{Layout}
use Rattle.model.specs.Outcome.{Refused, Done}
use Rattle.model.specs.declared.Volume.{Volume}
use Rattle.model.specs.declared.Access.{Access}
use Rattle.model.specs.declared.Ground.TheVariants as Ground
use Rattle.operations.specs.Calls.{admit, file_named, file_of, whole, slot_of, named_file}
use Rattle.operations.specs.Reading.{read, read_on, reading, file_byte, filled_outcome, buffer_after}
use Rattle.safety.specs.Sound.{proper}
use Rattle.safety.specs.Saved.{Holds, Gone, ReadHolds}
use Rattle.model.proofs.Laying.{overlay_same}
use Rattle.model.proofs.Overlays.{overlay_in}
use Rattle.model.proofs.Grounds.{then, ends, passed, asked, bound}
use Rattle.operations.proofs.Admitted.{Admitted, admitted, unmarked, named_is, admit_read, admit_write, admit_none}

-- A name means slot s, and the file in it keeps the chain rule.
pub record Meant (v : Volume) (x : Card) (n : Span) (s : ℕ) : Type 0 where
  pub ok : name_ok n ≡ true
  pub at : slot_of v x n ≡ s
  pub in_root : s < v.layout.entries
  pub plain : is_directory (slot_at v.layout x s) ≡ false
  pub keeps : proper v.layout x s ≡ true

module _ (w : Window) (v : Volume) (is : clean w ≡ granted v) where
  abbrev x : Card
  x = w.card

  abbrev l : Layout
  l = v.layout

  pub opened : (n : Span) (offset room : ℕ) → read w n offset room ≡ (file_of Access.Read v x n >>= λ f. granted (reading l x f offset room))
  unfolding read read_on
  opened n offset room = then (clean w) _ v is

  granted_file : (a : Access) (n : Span) (s : ℕ) → Meant v x n s → admit a (slot_holds l x s) ≡ granted (file_at l x s)
      → file_of a v x n ≡ granted (file_at l x s)
  unfolding file_of whole proper file_at
  granted_file a n s h let-in =
      passed Ground.Name (not (name_ok n)) _ (ap not h.ok)
      ∙ then (file_named a v x n) (whole v x) (file_at l x s) (named_is a v x n ∙ ap (λ s. admit a (slot_holds l x s)) h.at ∙ let-in)
      ∙ passed Ground.Chain _ _ (ap not h.keeps)

  pub granted_write : (n : Span) (s : ℕ) → Meant v x n s → is_locked (slot_at l x s) ≡ false → file_of Access.Write v x n ≡ granted (file_at l x s)
  granted_write n s h bare = granted_file Access.Write n s h (admit_write l x s h.in_root h.plain bare)

  read_granted : (n : Span) (s : ℕ) → Meant v x n s → (offset room : ℕ) → read w n offset room ≡ granted (reading l x (file_at l x s) offset room)
  read_granted n s h offset room = opened n offset room ∙ then (file_of Access.Read v x n) _ (file_at l x s)
      (granted_file Access.Read n s h (admit_read l x s h.in_root h.plain))

  pub holds_of : (n : Span) (s : ℕ) → Meant v x n s → (size : ℕ) (content : Bytes) → file_size (slot_at l x s) ≡ size
      → ((i : ℕ) → i < size → file_byte l x (file_at l x s) i ≡ content i) → Holds w n size content
  unfolding filled_outcome buffer_after reading file_at
  holds_of n s h size content sized same = record {
    count = λ offset room. ap filled_outcome (read_granted n s h offset room) ∙ ap (λ m. Done (min room (m - offset))) sized;
    bytes = λ offset room b i.
        (λ t. buffer_after (read_granted n s h offset room t) b i)
        ∙ (λ t. overlay (min room (sized t - offset)) (λ j. file_byte l x (file_at l x s) (offset + j)) 0 b i)
        ∙ overlay_same (min room (size - offset)) (λ j. file_byte l x (file_at l x s) (offset + j)) (λ j. content (offset + j)) 0 b
        (λ j less. same (offset + j) (omega arith)) i;
  }

  -- A name that no slot bears.
  pub gone_of : (n : Span) → name_ok n ≡ true → l.entries ≤ slot_of v x n → Gone w n
  unfolding file_of
  gone_of n ok above offset room =
      opened n offset room
      ∙ ends (file_of Access.Read v x n) _ Ground.Absent
      (passed Ground.Name (not (name_ok n)) _ (ap not ok)
      ∙ ends (file_named Access.Read v x n) (whole v x) Ground.Absent
      (named_is Access.Read v x n ∙ admit_none l x (slot_of v x n) Access.Read above))

  -- ---- what a file that is found tells of the card, whatever it is wanted for

  pub admitted_in : (a : Access) (n : Span) (f : File) → file_named a v x n ≡ granted f → Admitted l x (slot_of v x n) f
  admitted_in a n f h = admitted l x (slot_of v x n) a f (sym (named_is a v x n) ∙ h)

  pub unmarked_in : (n : Span) (f : File) → file_named Access.Write v x n ≡ granted f → is_locked (slot_at l x (slot_of v x n)) ≡ false
  unmarked_in n f h = unmarked l x (slot_of v x n) f (sym (named_is Access.Write v x n) ∙ h)

  pub record Found (a : Access) (n : Span) (f : File) : Type 0 where
    pub named : file_named a v x n ≡ granted f
    pub meant : Meant v x n (slot_of v x n)
    pub mine : file_at l x (slot_of v x n) ≡ f

  pub found_in : (a : Access) (n : Span) (f : File) → file_of a v x n ≡ granted f → Found a n f
  unfolding file_of whole proper file_at
  found_in a n f h =
      let h1 = asked Ground.Name (not (name_ok n)) _ f h in
      let b = bound (file_named a v x n) (whole v x) f h1.1 in
      let s = admitted_in a n b.0 b.1 in
      let h2 = asked Ground.Chain _ _ f (ap (whole v x) s.is ∙ b.2) in
      let h3 = asked Ground.Chain _ _ f b.2 in
      let e : granted b.0 ≡ granted f = h3.1 in
      let same : b.0 ≡ f = cc in
      record {
        named = b.1 ∙ ap granted same;
        meant = record { ok = not-false (name_ok n) h1.0; at = refl; in_root = s.in_root; plain = s.plain; keeps = not-false _ h2.0 };
        mine = s.is ∙ same;
      }

  -- Of a name that holds bytes.
  pub record Read (n : Span) (size : ℕ) (content : Bytes) : Type 0 where
    pub found : Meant v x n (slot_of v x n)
    pub sized : file_size (slot_at l x (slot_of v x n)) ≡ size
    pub same : (i : ℕ) → i < size → file_byte l x (file_at l x (slot_of v x n)) i ≡ content i

  found_read : (n : Span) (size : ℕ) (content : Bytes) → Holds w n size content → Meant v x n (slot_of v x n) → Read n size content
  unfolding filled_outcome buffer_after reading file_at
  found_read n size content h f =
      let s : ℕ = slot_of v x n in
      let m : ℕ = file_size (slot_at l x s) in
      let counts : Done (min (size + m) (m - 0)) ≡ Done (min (size + m) (size - 0)) = sym (ap filled_outcome (read_granted n s f 0 (size + m)))
      ∙ h.count 0 (size + m) in
      let equal : min (size + m) (m - 0) ≡ min (size + m) (size - 0) = cc in
      record {
        found = f;
        sized = omega arith;
        same = λ i less.
            let none : Bytes = λ j. 0 in
            let at : 0 + (i - 0) ≡ i = omega arith in
            let laid : overlay (min size (m - 0)) (λ j. file_byte l x (file_at l x s) (0 + j)) 0 none i ≡ overlay (min size (size - 0))
            (λ j. content (0 + j)) 0 none i =
            sym (λ t. buffer_after (read_granted n s f 0 size t) none i) ∙ h.bytes 0 size none i in
            ap (file_byte l x (file_at l x s)) (sym at)
            ∙ sym (overlay_in (λ j. file_byte l x (file_at l x s) (0 + j)) 0 none (min size (m - 0)) i (omega arith) (omega arith))
            ∙ laid ∙ overlay_in (λ j. content (0 + j)) 0 none (min size (size - 0)) i (omega arith) (omega arith) ∙ ap content at;
      }

  pub holds_read : (n : Span) (size : ℕ) (content : Bytes) → Holds w n size content → Read n size content
  unfolding filled_outcome ◌>>=◌
  holds_read n size content h = go (file_of Access.Read v x n) refl
    where
      go : (a : Answer File) → file_of Access.Read v x n ≡ a → Read n size content
      go (refused g) e =
          let r : Refused g ≡ Done (min 0 (size - 0)) = sym (ap filled_outcome (opened n 0 0 ∙ ends (file_of Access.Read v x n) _ g e)) ∙ h.count 0 0 in
          let z : ◌≡◌ {A = ℕ} 0 1 = cc in
          absurd (omega arith)
      go (granted f) e = found_read n size content h (found_in Access.Read n f e).meant

-- A granted read.
pub granted_holds : ReadHolds
unfolding named_file file_at
granted_holds w v is n offset room r h =
    let b = bound (file_of Access.Read v w.card n) _ r (sym (opened w v is n offset room) ∙ h) in
    holds_of w v is n (slot_of v w.card n) (found_in w v is Access.Read n b.0 b.1).meant _ _ refl (λ i less. refl)
