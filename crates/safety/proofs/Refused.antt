-- What grounds 1 to 6 refuse, every call refuses.
use Prim.Native.Nat.{ℕ}
use mathlib.Core.Path.{◌≡◌}
use Rattle.model.specs.Bytes.{Span}
use Rattle.model.specs.Sector.{Window}
use Rattle.model.specs.Ground.{refused}
use Rattle.model.specs.Volume.{examine, clean, clean_at}
use Rattle.model.specs.declared.Ground.{Ground}
use Rattle.operations.specs.Calls.{Call, creates, creates_long, appends, truncates, deletes, renames, replaces, recovers, plan}
use Rattle.operations.specs.Calls.{create, create_long, append, truncate, delete, rename, replace, recover}
use Rattle.operations.specs.Reading.{read, list, long_name}
use Rattle.operations.specs.Fitting.{fits}
use Rattle.model.proofs.Grounds.{ends}
use Rattle.model.proofs.Volumes.{at_refused}

-- What grounds 1 to 6 refuse, each call refuses on the same ground.
module _ (x : Window) (g : Ground) (e : examine x ≡ refused g) where
  unclean : clean x ≡ refused g
  unfolding clean
  unclean = ends (examine x) _ g e

  at_any : (s : ℕ) → clean_at x s ≡ refused g
  at_any s = at_refused x s g unclean

  pub call_refused : (k : Call) → plan k x ≡ refused g
  unfolding plan create create_long append truncate delete rename replace recover
  call_refused (creates n s) = ends (clean_at x s) _ g (at_any s)
  call_refused (creates_long n t s) = ends (clean_at x s) _ g (at_any s)
  call_refused (appends n d s) = ends (clean_at x s) _ g (at_any s)
  call_refused (truncates n m s) = ends (clean_at x s) _ g (at_any s)
  call_refused (deletes n) = ends (clean x) _ g unclean
  call_refused (renames n m) = ends (clean x) _ g unclean
  call_refused (replaces n d s) = ends (clean_at x s) _ g (at_any s)
  call_refused recovers = ends (examine x) _ g e

  pub read_refused : (n : Span) (offset room : ℕ) → read x n offset room ≡ refused g
  unfolding read
  read_refused n offset room = ends (clean x) _ g unclean

  pub list_refused : (room : ℕ) → list x room ≡ refused g
  unfolding list
  list_refused room = ends (clean x) _ g unclean

  pub long_name_refused : (n : Span) (room : ℕ) → long_name x n room ≡ refused g
  unfolding long_name
  long_name_refused n room = ends (clean x) _ g unclean

  pub fits_refused : (bytes : ℕ) → fits x bytes ≡ refused g
  unfolding fits
  fits_refused bytes = ends (clean x) _ g unclean
