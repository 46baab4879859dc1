use mathlib.Core.Path.{refl}
use Rattle.fat_write.proofs.shorten_fat.Goals as goal

pub free_clusters-requires : goal.free_clusters-requires
free_clusters-requires c = record { held = c.requires; marks_len = (refl, λ p. refl) }
