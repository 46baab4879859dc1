-- The calls on a window that is known to be clean: what each asks after that, so that a row need not compute it.
use Prim.Native.Nat.{ℕ, ◌≤◌}
use mathlib.Core.Path.{◌≡◌}
use Rattle.model.specs.Bytes.{Span}
use Rattle.model.specs.Sector.{Window}
use Rattle.model.specs.Calendar.{stamp_of, last_second}
use Rattle.model.specs.Ground.{refused, granted}
use Rattle.model.specs.Volume.{clean, clean_at}
use Rattle.model.specs.declared.Ground.{Ground}
use Rattle.model.specs.declared.Volume.{Volume}
use Rattle.operations.specs.Calls.{create, create_long, append, truncate, delete, rename, replace}
use Rattle.operations.specs.Calls.{create_on, create_long_on, append_on, truncate_on, delete_on, rename_on, replace_on}
use Rattle.operations.specs.Reading.{read, read_on, list, directory_listing, shown, long_name, long_name_on}
use Rattle.model.proofs.Grounds.{then, ends}
use Rattle.model.proofs.Volumes.{at_granted, at_refused}

module _ (w : Window) (v : Volume) (is : clean w ≡ granted v) where
  pub delete_is : (n : Span) → delete w n ≡ delete_on v w.card n
  unfolding delete
  delete_is n = then (clean w) _ v is

  pub rename_is : (n m : Span) → rename w n m ≡ rename_on v w.card n m
  unfolding rename
  rename_is n m = then (clean w) _ v is

  pub read_is : (n : Span) (offset room : ℕ) → read w n offset room ≡ read_on v w.card n offset room
  unfolding read
  read_is n offset room = then (clean w) _ v is

  pub list_is : (room : ℕ) → list w room ≡ granted (directory_listing v.layout w.card (shown v.layout w.card) room)
  unfolding list
  list_is room = then (clean w) _ v is

  pub long_name_is : (n : Span) (room : ℕ) → long_name w n room ≡ long_name_on v w.card n room
  unfolding long_name
  long_name_is n room = then (clean w) _ v is

-- Those that take seconds, which CLOCK passes.
module _ (w : Window) (v : Volume) (is : clean w ≡ granted v) (s : ℕ) (timely : s ≤ last_second) where
  pub create_is : (n : Span) → create w n s ≡ create_on v w.card n (stamp_of s)
  unfolding create
  create_is n = then (clean_at w s) _ v (at_granted w s v is timely)

  pub create_long_is : (n t : Span) → create_long w n t s ≡ create_long_on v w.card n t (stamp_of s)
  unfolding create_long
  create_long_is n t = then (clean_at w s) _ v (at_granted w s v is timely)

  pub append_is : (n d : Span) → append w n d s ≡ append_on v w.card n d (stamp_of s)
  unfolding append
  append_is n d = then (clean_at w s) _ v (at_granted w s v is timely)

  pub truncate_is : (n : Span) (size : ℕ) → truncate w n size s ≡ truncate_on v w.card n size (stamp_of s)
  unfolding truncate
  truncate_is n size = then (clean_at w s) _ v (at_granted w s v is timely)

  pub replace_is : (n d : Span) → replace w n d s ≡ replace_on v w.card n d (stamp_of s)
  unfolding replace
  replace_is n d = then (clean_at w s) _ v (at_granted w s v is timely)

-- They ask grounds 1 to 7 first.
module _ (w : Window) (g : Ground) (is : clean w ≡ refused g) (s : ℕ) (n : Span) where
  pub create_refused : create w n s ≡ refused g
  unfolding create
  create_refused = ends (clean_at w s) _ g (at_refused w s g is)

  pub create_long_refused : (t : Span) → create_long w n t s ≡ refused g
  unfolding create_long
  create_long_refused t = ends (clean_at w s) _ g (at_refused w s g is)

  pub append_refused : (d : Span) → append w n d s ≡ refused g
  unfolding append
  append_refused d = ends (clean_at w s) _ g (at_refused w s g is)

  pub truncate_refused : (size : ℕ) → truncate w n size s ≡ refused g
  unfolding truncate
  truncate_refused size = ends (clean_at w s) _ g (at_refused w s g is)

  pub replace_refused : (d : Span) → replace w n d s ≡ refused g
  unfolding replace
  replace_refused d = ends (clean_at w s) _ g (at_refused w s g is)
