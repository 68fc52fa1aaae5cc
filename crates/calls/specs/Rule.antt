-- Refusals as rules: "The lowest number that applies is given". What a rule is, `field` says.
pub use Rattle.field.specs.Rule.{Rule, rule, Gives, gives_one}
