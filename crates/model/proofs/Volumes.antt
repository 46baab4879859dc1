-- Laws of grounds 1 to 7: what a card that passes them is like, and that a card like it passes them too.
use Prim.Native.Nat.{ℕ, ◌+◌, ◌-◌, ◌*◌, ◌≤◌, ◌<◌}
use native.Mathlib.Nat.{mul-le-mul_right}
use native.Mathlib.Omega.{arith}
use mathlib.Core.Path.{◌≡◌, refl, sym, ap, ◌∙◌}
use mathlib.Core.Bool.{true, false, not}
use lib.Dec.{ltb}
use borrow.Author.Tests.{not-false, leb-true, lt-ltb, le-ltb, ltb-false}
use Rattle.model.specs.Sector.{Card, Window}
use Rattle.model.specs.Boot.{layout}
use Rattle.model.specs.Fat.{Fat, fat1_of, fats_agree}
use Rattle.model.specs.Chain.{cluster_sector}
use Rattle.model.specs.Root.{root_ok, first_bytes}
use Rattle.model.specs.Log.{area, run, run_ok, marked}
use Rattle.model.specs.Pending.{pending, is_broken, is_held}
use Rattle.model.specs.Calendar.{last_second}
use Rattle.model.specs.Ground.{refused, granted}
use Rattle.model.specs.Volume.{mount, locate, examine, inspect, settled, clean, clean_at}
use Rattle.model.specs.Promises.{Shape}
use Rattle.model.specs.declared.Area.{Area}
use Rattle.model.specs.declared.Ground.{Ground}
use Rattle.model.specs.declared.Layout.{Layout}
use Rattle.model.specs.declared.Pending.{Pending}
use Rattle.model.specs.declared.Run.{Run}
use Rattle.model.specs.declared.Volume.{Volume}
use Rattle.model.proofs.Tests.{clash, every_at}
use Rattle.model.proofs.Scan.{first_ge, first_count, first_same, count_same, all_same}
use Rattle.model.proofs.Boot.{shape}
use Rattle.model.proofs.Grounds.{asked, then, ends, passed, barred, bound}

-- ---- where things are on a card

abbrev pub window : ℕ → Card → Window
window size c = record { size = size; card = c }

abbrev pub layout_of : Card → Layout
layout_of c = layout (c 0)

abbrev pub first_fat : Card → Fat
first_fat c = fat1_of (layout_of c) c

abbrev pub area_of : Card → Area
area_of c = area (layout_of c) (run (layout_of c) (first_fat c))

abbrev pub pending_of : Card → Pending
pending_of c = pending (layout_of c) (area_of c) c

abbrev pub volume_of : Card → Pending → Volume
volume_of c p = record { layout = layout_of c; log = area_of c; pending = p }

-- ---- grounds 1 to 6

-- Grounds 1 to 4 are passed; 5 and 6 as well.
pub record Fit (size : ℕ) (c : Card) : Type 0 where
  pub mounts : mount (window size c) ≡ granted (layout_of c)
  pub locates : locate (layout_of c) (first_fat c) ≡ granted (area_of c)

pub record Passed (size : ℕ) (c : Card) : Type 0 where
  pub fit : Fit size c
  pub root : root_ok (layout_of c).entries (first_bytes (layout_of c) c) ≡ true
  pub sound : is_broken (pending_of c) ≡ false

pub fit_shape : (size : ℕ) (c : Card) → Fit size c → Shape (layout_of c)
unfolding mount
fit_shape size c f = let h1 = asked Ground.Short _ _ _ f.mounts in let h2 = asked Ground.Boot _ _ _ h1.1 in shape (c 0) (not-false _ h2.0)

pub fit_run : (size : ℕ) (c : Card) → Fit size c → run_ok (layout_of c) (first_fat c) (run (layout_of c) (first_fat c)) ≡ true
unfolding locate
fit_run size c f = let h = asked Ground.Logarea _ _ _ f.locates in not-false _ h.0

pub examine_of : (size : ℕ) (c : Card) → Passed size c → examine (window size c) ≡ granted (volume_of c (pending_of c))
unfolding examine inspect
examine_of size c e =
    then (mount (window size c)) _ (layout_of c) e.fit.mounts
    ∙ then (locate (layout_of c) (first_fat c)) _ (area_of c) e.fit.locates
    ∙ passed Ground.Root _ _ (ap not e.root)
    ∙ passed Ground.Record _ _ e.sound

mounted : (w : Window) (l : Layout) → mount w ≡ granted l → l ≡ layout (w.card 0)
unfolding mount
mounted w l h =
    let h1 = asked Ground.Short _ _ l h in
    let h2 = asked Ground.Boot _ _ l h1.1 in
    let h3 = asked Ground.Window _ _ l h2.1 in
    let e : granted (layout (w.card 0)) ≡ granted l = h3.1 in
    cc

located : (l : Layout) (f : Fat) (a : Area) → locate l f ≡ granted a → a ≡ area l (run l f)
unfolding locate
located l f a h = let h1 = asked Ground.Logarea _ _ a h in let e : granted (area l (run l f)) ≡ granted a = h1.1 in cc

inspected : (c : Card) (l : Layout) (a : Area) (p : Pending) (v : Volume) → inspect c l a p ≡ granted v
    → (root_ok l.entries (first_bytes l c) ≡ true) × (is_broken p ≡ false) × (v ≡ record { layout = l; log = a; pending = p })
unfolding inspect
inspected c l a p v h =
    let h1 = asked Ground.Root (not (root_ok l.entries (first_bytes l c))) _ v h in
    let h2 = asked Ground.Record (is_broken p) _ v h1.1 in
    let e : granted (record { layout = l; log = a; pending = p }) ≡ granted v = h2.1 in
    (not-false (root_ok l.entries (first_bytes l c)) h1.0, h2.0, (cc))

pub examined : (size : ℕ) (c : Card) (v : Volume) → examine (window size c) ≡ granted v → Passed size c × (v ≡ volume_of c (pending_of c))
unfolding examine
examined size c v h =
    let m = bound (mount (window size c)) _ v h in
    let on-l : m.0 ≡ layout_of c = mounted (window size c) m.0 m.1 in
    let n = bound (locate m.0 (fat1_of m.0 c)) _ v m.2 in
    let on-a : n.0 ≡ area_of c = located m.0 (fat1_of m.0 c) n.0 n.1 ∙ ap (λ l. area l (run l (fat1_of l c))) on-l in
    let there : inspect c (layout_of c) (area_of c) (pending_of c) ≡ granted v = sym (λ t. inspect c (on-l t) (on-a t) (pending (on-l t) (on-a t) c)) ∙ n.2 in
    let r = inspected c (layout_of c) (area_of c) (pending_of c) v there in
    let fit : Fit size c = record { mounts = m.1 ∙ ap granted on-l; locates = sym (ap (λ l. locate l (fat1_of l c)) on-l) ∙ n.1 ∙ ap granted on-a } in
    (record { fit = fit; root = r.0; sound = r.1 }, r.2)

-- ---- a clean card

pub record Clean (size : ℕ) (c : Card) : Type 0 where
  pub fit : Fit size c
  pub root : root_ok (layout_of c).entries (first_bytes (layout_of c) c) ≡ true
  pub calm : pending_of c ≡ Pending.Nothing
  pub agree : fats_agree (layout_of c) c ≡ true

calm_is : (p : Pending) → is_broken p ≡ false → is_held p ≡ false → p ≡ Pending.Nothing
calm_is Pending.Nothing b h = refl
calm_is Pending.Broken b h = clash refl b
calm_is (Pending.Held s) b h = clash refl h

settles : (c : Card) (u v : Volume) → settled c u ≡ granted v → (is_held u.pending ≡ false) × (fats_agree u.layout c ≡ true) × (v ≡ u)
unfolding settled
settles c u v h =
    let h1 = asked Ground.Unclean (is_held u.pending) _ v h in
    let h2 = asked Ground.Unclean (not (fats_agree u.layout c)) _ v h1.1 in
    let e : granted u ≡ granted v = h2.1 in
    (h1.0, not-false (fats_agree u.layout c) h2.0, (cc))

pub cleaned : (size : ℕ) (c : Card) (v : Volume) → clean (window size c) ≡ granted v → Clean size c × (v ≡ volume_of c Pending.Nothing)
unfolding clean
cleaned size c v h =
    let b = bound (examine (window size c)) _ v h in
    let e = examined size c b.0 b.1 in
    let r = settles c (volume_of c (pending_of c)) v (ap (settled c) (sym e.1) ∙ b.2) in
    let calm : pending_of c ≡ Pending.Nothing = calm_is (pending_of c) e.0.sound r.0 in
    (record { fit = e.0.fit; root = e.0.root; calm = calm; agree = r.1 }, r.2 ∙ ap (volume_of c) calm)

-- ---- the log's run lies within the clusters, the log within the card

pub run_low : (l : Layout) (f : Fat) → 2 ≤ (run l f).start
unfolding run
run_low l f = first_ge (marked f) 2 l.clusters

pub run_high : (l : Layout) (f : Fat) → (run l f).start + (run l f).size ≤ 2 + l.clusters
unfolding run
run_high l f = first_count (marked f) 2 l.clusters

pub area_low : (l : Layout) (r : Run) → l.start ≤ (area l r).sector
unfolding area cluster_sector
area_low l r = omega arith

pub area_high : (l : Layout) (f : Fat) → Shape l → (area l (run l f)).sector + (area l (run l f)).sectors ≤ l.total
unfolding area cluster_sector
area_high l f sh =
    let r : Run = run l f in
    let two : 2 ≤ r.start = run_low l f in
    let e : r.start + r.size ≤ 2 + l.clusters = run_high l f in
    let m : (r.start - 2 + r.size) * l.factor ≤ l.clusters * l.factor = mul-le-mul_right l.factor (omega arith) in
    spread (r.start - 2) r.size l.factor (l.clusters * l.factor) l.start l.total m sh.data_end
  where
    spread : (a b p m s t : ℕ) → (a + b) * p ≤ m → s + m ≤ t → s + a * p + b * p ≤ t
    spread a b p m s t h k = omega arith

-- It has a sector, and at most 128.
pub area_some : (l : Layout) (f : Fat) → 1 ≤ l.factor → run_ok l f (run l f) ≡ true → 1 ≤ (area l (run l f)).sectors
unfolding area run_ok
area_some l f one ok =
    let m : 1 * l.factor ≤ (run l f).size * l.factor = mul-le-mul_right l.factor (leb-true 1 (run l f).size (every_at _ ok 0)) in
    omega arith

pub area_few : (l : Layout) (f : Fat) → run_ok l f (run l f) ≡ true → (area l (run l f)).sectors ≤ 128
unfolding area run_ok
area_few l f ok = leb-true _ 128 (every_at _ ok 1)

-- ---- a card with the same boot sector and the same clusters marked in FAT1

abbrev pub SameMarks : Layout → Fat → Fat → Type 0
SameMarks l f g = (k : ℕ) → 2 ≤ k → k < 2 + l.clusters → marked f k ≡ marked g k

pub record Alike (c x : Card) : Type 0 where
  pub boot : x 0 ≡ c 0
  pub marks : SameMarks (layout_of c) (fat1_of (layout_of c) x) (first_fat c)

module _ (l : Layout) (f g : Fat) (same : SameMarks l f g) where
  run_same : run l f ≡ run l g
  unfolding run
  run_same = λ t. record { start = first_same (marked f) (marked g) 2 l.clusters same t; size = count_same (marked f) (marked g) 2 l.clusters same t }

  run_ok_same : run_ok l f (run l g) ≡ run_ok l g (run l g)
  unfolding run_ok
  run_ok_same =
      let low : 2 ≤ (run l g).start = run_low l g in
      let high : (run l g).start + (run l g).size ≤ 2 + l.clusters = run_high l g in
      rw (all_same (marked f) (marked g) (run l g).start (run l g).size (λ k lo hi. same k (omega arith) (omega arith)))

  locate_same : locate l f ≡ locate l g
  unfolding locate
  locate_same = rw (run_same, run_ok_same)

module _ (size : ℕ) (c x : Card) (h : Alike c x) where
  pub layout_same : layout_of x ≡ layout_of c
  layout_same = ap layout h.boot

  pub area_same : area_of x ≡ area_of c
  area_same = ap (λ l. area l (run l (fat1_of l x))) layout_same
      ∙ ap (area (layout_of c)) (run_same (layout_of c) (fat1_of (layout_of c) x) (first_fat c) h.marks)

  mount_same : mount (window size x) ≡ mount (window size c)
  unfolding mount
  mount_same = rw h.boot

  pub fit_same : Fit size c → Fit size x
  fit_same f = record {
    mounts = mount_same ∙ f.mounts ∙ ap granted (sym layout_same);
    locates =
        ap (λ l. locate l (fat1_of l x)) layout_same ∙ locate_same (layout_of c) (fat1_of (layout_of c) x) (first_fat c) h.marks
        ∙ f.locates ∙ ap granted (sym area_same);
  }

  -- What is read of such a card goes by the layout and the log of c.
  pub examine_same : Fit size c → (p : Pending) → root_ok (layout_of c).entries (first_bytes (layout_of c) x) ≡ true
      → pending (layout_of c) (area_of c) x ≡ p → is_broken p ≡ false → examine (window size x) ≡ granted (volume_of c p)
  examine_same f p root at sound =
      let same : pending_of x ≡ p = (λ t. pending (layout_same t) (area_same t) x) ∙ at in
      examine_of size x (record {
        fit = fit_same f;
        root = ap (λ l. root_ok l.entries (first_bytes l x)) layout_same ∙ root;
        sound = ap is_broken
            same ∙ sound;
      })
      ∙ (λ t. granted (record { layout = layout_same t; log = area_same t; pending = same t }))

  pub clean_same : Fit size c → root_ok (layout_of c).entries (first_bytes (layout_of c) x) ≡ true
      → pending (layout_of c) (area_of c) x ≡ Pending.Nothing → fats_agree (layout_of c) x ≡ true
      → clean (window size x) ≡ granted (volume_of c Pending.Nothing)
  unfolding clean settled
  clean_same f root calm agree =
      then (examine (window size x)) _ (volume_of c Pending.Nothing) (examine_same f Pending.Nothing root calm refl)
      ∙ passed Ground.Unclean _ _ refl ∙ passed Ground.Unclean _ _ (ap not agree)

-- ---- CLOCK

-- Grounds 1 to 7 and CLOCK: refused by the card, or for the seconds, or neither.
module _ (w : Window) (s : ℕ) where
  pub at_refused : (g : Ground) → clean w ≡ refused g → clean_at w s ≡ refused g
  unfolding clean_at
  at_refused g e = ends (clean w) _ g e

  pub at_late : (v : Volume) → clean w ≡ granted v → last_second < s → clean_at w s ≡ refused Ground.Clock
  unfolding clean_at
  at_late v e late = then (clean w) _ v e ∙ barred Ground.Clock (ltb last_second s) (granted v) (lt-ltb last_second s late)

  pub at_granted : (v : Volume) → clean w ≡ granted v → s ≤ last_second → clean_at w s ≡ granted v
  unfolding clean_at
  at_granted v e timely = then (clean w) _ v e ∙ passed Ground.Clock (ltb last_second s) (granted v) (le-ltb last_second s timely)

  pub timely : (v : Volume) → clean_at w s ≡ granted v → (clean w ≡ granted v) × (s ≤ last_second)
  unfolding clean_at
  timely v h =
      let b = bound (clean w) _ v h in
      let a = asked Ground.Clock (ltb last_second s) (granted b.0) v b.2 in
      let e : granted b.0 ≡ granted v = a.1 in
      let same : b.0 ≡ v = cc in
      (b.1 ∙ ap granted same, ltb-false last_second s a.0)
