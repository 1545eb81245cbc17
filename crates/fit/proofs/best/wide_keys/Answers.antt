-- What is left to show of `wide_keys`.
use Rattle.std.proofs.Common.{ℕ, ◌∙◌, rules}
use Rattle.std.proofs.lemmas.List.{map-id}
use Rattle.eligible.specs.More.{map_is}
use Rattle.fit.proofs.best.wide_keys.Goals as goal

pub returns : goal.returns
returns c = map_is _ (λ (x : ℕ). x) (λ x y r k. search rules) 0 0 _ _ _ (search rules) c.map.ensures.items ∙ map-id c.args.nodes
