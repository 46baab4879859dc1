-- SIZE is answered only where no card of the form would pass BOOT and LOGAREA.
use Prim.Native.Nat.{ℕ, ◌*◌, ◌≤◌, ◌<◌}
use native.Mathlib.Nat.{mul-le-mul_right}
use native.Mathlib.Omega.{arith}
use mathlib.Core.Path.{◌≡◌, sym, ap, ◌∙◌}
use mathlib.Core.Logic.{◌⊎◌, inl, inr}
use mathlib.Core.Bool.{true}
use borrow.Author.Tests.{leb-true, not-false}
use Rattle.model.specs.Sector.{Window}
use Rattle.model.specs.Boot.{boot_ok, layout, arrange, fields_ok, size_ok}
use Rattle.model.specs.Fat.{fat1_of}
use Rattle.model.specs.Log.{run, run_ok}
use Rattle.model.specs.Volume.{mount}
use Rattle.model.specs.Promises.{Shape}
use Rattle.model.specs.declared.Layout.{Layout}
use Rattle.model.specs.declared.Ground.{Ground}
use Rattle.formatting.specs.Fresh.{fresh_fields}
use Rattle.formatting.specs.Format.{form_ok}
use Rattle.safety.specs.Formatted.{OfForm, SizeRefused}
use Rattle.model.proofs.Tests.{less?, clash, every_at, each_every}
use Rattle.model.proofs.Grounds.{asked}
use Rattle.model.proofs.Volumes.{Fit, fit_run, examined}
use Rattle.model.proofs.Boot.{arranged}
use Rattle.formatting.proofs.Fat.{all_counted, counted}
use Rattle.formatting.proofs.Form.{unformed}

-- A card of the form that passes BOOT and LOGAREA has the numbers of one.
module _ (total factor n : ℕ) (x : Window) (form : OfForm total factor n x) (fit : Fit x.size x.card) where
  abbrev given : Layout
  given = arrange (fresh_fields total factor)

  booted : boot_ok (x.card 0) ≡ true
  unfolding mount
  booted = let h1 = asked Ground.Short _ _ _ fit.mounts in let h2 = asked Ground.Boot _ _ _ h1.1 in not-false _ h2.0

  laid : layout (x.card 0) ≡ given
  unfolding layout
  laid = ap arrange form.numbers

  ran : run_ok given (fat1_of given x.card) (run given (fat1_of given x.card)) ≡ true
  ran = sym (ap (λ l. run_ok l (fat1_of l x.card) (run l (fat1_of l x.card))) laid) ∙ fit_run x.size x.card fit

  numbered : fields_ok (fresh_fields total factor) ≡ true
  unfolding boot_ok
  numbered = sym (ap fields_ok form.numbers) ∙ every_at _ booted 1

  measured : size_ok given ≡ true
  unfolding boot_ok
  measured = sym (ap size_ok laid) ∙ every_at _ booted 2

  proportions : Shape given
  proportions = arranged (fresh_fields total factor) numbered measured

  -- The run is not longer than the card, so that it is the log of n clusters.
  few : n ≤ given.clusters
  unfolding run_ok
  few = go (less? given.clusters n)
    where
      go : (given.clusters < n) ⊎ (n ≤ given.clusters) → n ≤ given.clusters
      go (inl more) =
          let all : (run given (fat1_of given x.card)).size ≡ given.clusters = all_counted given n (fat1_of given x.card) form.marks (omega arith) in
          let short : (run given (fat1_of given x.card)).size * given.factor ≤ 128 = leb-true _ 128 (every_at _ ran 1) in
          let m : 4085 * given.factor ≤ given.clusters * given.factor = mul-le-mul_right given.factor proportions.many in
          absurd (omega (arith, ap (λ k. k * given.factor) all, proportions.factor_low))
      go (inr le) = le

  passes : form_ok (fresh_fields total factor) n ≡ true
  unfolding form_ok run_ok arrange
  passes =
      let own : (run given (fat1_of given x.card)).size ≡ n = counted given n (fat1_of given x.card) form.marks few in
      each_every _ (numbered, (measured, (rw own at (every_at _ ran 0), (rw own at (every_at _ ran 1), tt))))

pub size_refused : SizeRefused
size_refused w total factor n no-card x form v is =
    clash (passes total factor n x form (examined x.size x.card v is).0.fit) (unformed w total factor n no-card)
