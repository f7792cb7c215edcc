use Rattle.css_semantics.proofs.PropLemmas.{word_at_place}
use Rattle.css_semantics.proofs.value_laws.initial_words_at_their_places.Goals as goal

pub returns : goal.returns
returns c = word_at_place
