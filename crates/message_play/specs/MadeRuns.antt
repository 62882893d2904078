-- The letters that an honest wire gives.
use Rattle.std.specs.Prelude.{List, [], ◌∷◌, ◌++◌}
use Rattle.outside.specs.declared.name.Name.{Name}
use Rattle.peers.specs.Protocols.{Letter, Protocol, firsts}

-- The letters with these names, each as its sender makes it of the letters before it. Those of `earlier` came before
-- all these.
abbrev pub made_after : Protocol → List Letter → List Name → List Letter
made_after P earlier [] = []
made_after P earlier (n ∷ ns) =
    (n, P.content n (firsts earlier)) ∷ made_after P (earlier ++ (n, P.content n (firsts earlier)) ∷ []) ns

abbrev pub made_run : Protocol → List Name → List Letter
made_run P names = made_after P [] names
