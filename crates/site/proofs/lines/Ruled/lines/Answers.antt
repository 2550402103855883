use Rattle.std.proofs.Common.{rules, ◌≡◌, [], ◌∷◌, ap, ◌∙◌, map}
use Rattle.std.specs.List.{zip}
use Rattle.terms.specs.Few.{few_list}
use Rattle.site.proofs.Numbered.{line_of_part, few_numbered}
use Rattle.site.proofs.lines.Ruled.lines.Goals as goal

pub returns : goal.returns
returns g c =
    let x = c.args.self.now.transaction in
    let lines : few_list c.map.result ≡ map (line_of_part x.time) (few_list c.zip-parts.result) = c.map.ensures (line_of_part x.time) (λ p r f e. search rules) in
    lines
    ∙ ap (map (line_of_part x.time)) (c.zip-parts.ensures ∙ ap (λ ps. zip ps (1 ∷ 2 ∷ 3 ∷ 4 ∷ [])) c.zip.ensures)
    ∙ few_numbered x.time c.args.self.now.modes x.entries
